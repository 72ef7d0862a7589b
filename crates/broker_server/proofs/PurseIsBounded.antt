-- All waiting costs what pays for it a second and a tenth at most, and what comes back to it in the time.
use Rattle.std.proofs.Common.{◌≡◌, ℕ, ◌+◌, ◌-◌, ◌*◌, ◌<◌, ◌≤◌, min, max, Bool, true, false, List, [], ◌∷◌, ◌==◌, refl, arith, if◌then◌else◌}
use Rattle.std.proofs.Math.Nat.{mul-add}
use Rattle.broker_server.specs.declared.serving.moment.Moment.{Moment}
use Rattle.broker_server.specs.declared.serving.price.Price.{Price}
use Rattle.broker_server.specs.declared.serving.price.Price.TheVariants.{Free, Sixtieth, Full, Trusted}
use Rattle.broker_server.specs.declared.serving.fund.Fund.{Fund}
use Rattle.broker_server.specs.declared.serving.purse.Purse.{Purse}
use Rattle.broker_server.specs.Purses.{AreInTime, Begins, Ends, GoesOn, IsBounded, Pays, PurseCall, after_call, after_calls, after_time, change_by, common_back, common_pays, full_fund, fund_after, fund_with, least_fund, moment_of, most_lacking, paid_rate, paid_time, price_until, rate, tenth, trust_back, trust_pays, waited_cost}

-- ---- one fund

-- what each fund keeps
record InOrder (fund : Fund) : Type 0 where
  within : fund.lacks ≤ most_lacking
  holds : fund.spent ≡ false → fund.lacks < full_fund

with_in_order : (fund : Fund) (lacks : ℕ) → InOrder (fund_with fund lacks)
with_in_order fund lacks = record { within = grind arith; holds = λ unspent. grind (arith, unspent) }

after_in_order : (fund : Fund) (cost back : ℕ) → InOrder (fund_after fund cost back)
after_in_order fund cost back = with_in_order fund (if cost == 0 then fund.lacks - back else fund.lacks + cost)

fund_step_by : (fund : Fund) (cost back : ℕ) (costs_nothing : Bool) → (cost == 0) ≡ costs_nothing → InOrder fund → cost ≤ least_fund → (0 < cost → fund.spent ≡ false)
    → cost + fund.lacks ≤ min (if costs_nothing then fund.lacks - back else fund.lacks + cost) most_lacking + back
fund_step_by fund cost back true same order small unspent =
    let nothing : cost ≡ 0 = grind (arith, same) in
    omega (arith, nothing, order.within)
fund_step_by fund cost back false same order small unspent =
    let some : 0 < cost = grind (arith, same) in
    omega (arith, small, order.holds (unspent some))

-- what is paid is lacking then, as long as it was a tenth of a second at most
fund_step : (fund : Fund) (cost back : ℕ) → InOrder fund → cost ≤ least_fund → (0 < cost → fund.spent ≡ false)
    → cost + fund.lacks ≤ (fund_after fund cost back).lacks + back
fund_step fund cost back order small unspent = fund_step_by fund cost back (cost == 0) refl order small unspent

-- a time that is paid for costs a tenth of a second at most, as long as it was one
rate_within : (price : Price) (time : ℕ) → time ≤ tenth → rate price * time ≤ least_fund
rate_within Free time short = omega (arith, short)
rate_within Sixtieth time short = omega (arith, short)
rate_within Full time short = omega (arith, short)
rate_within Trusted time short = omega (arith, short)

-- ---- a purse

record AreInOrder (purse : Purse) : Type 0 where
  common : InOrder purse.common
  trust : InOrder purse.trust

change_in_order : (call : PurseCall) (purse : Purse) → AreInOrder purse → AreInOrder (change_by call purse)
change_in_order (Begins now price) purse order = record { common = order.common; trust = order.trust }
change_in_order (GoesOn now price) purse order = record { common = order.common; trust = order.trust }
change_in_order (Ends now) purse order = record { common = order.common; trust = order.trust }
change_in_order (Pays now owed) purse order = record { common = with_in_order purse.common (purse.common.lacks + owed); trust = order.trust }

time_in_order : (purse : Purse) (now : Moment) (price : Price) → AreInOrder (after_time purse now price)
time_in_order purse now price =
    let time = now.0 - purse.at.0 in
    record {
      common = after_in_order purse.common (paid_rate (common_pays purse price) price * paid_time time) (common_back * time);
      trust = after_in_order purse.trust (paid_rate (trust_pays purse price) price * paid_time time) (trust_back * time);
    }

call_in_order : (purse : Purse) (call : PurseCall) → AreInOrder (after_call purse call)
call_in_order purse call = change_in_order call (after_time purse (moment_of call) (price_until purse call)) (time_in_order purse (moment_of call) (price_until purse call))

calls_in_order : (purse : Purse) (calls : List PurseCall) → AreInOrder purse → AreInOrder (after_calls purse calls)
calls_in_order purse [] order = order
calls_in_order purse (call ∷ calls) order = calls_in_order (after_call purse call) calls (call_in_order purse call)

change_at : (call : PurseCall) (purse : Purse) → (change_by call purse).at.0 ≡ purse.at.0
change_at (Begins now price) purse = refl
change_at (GoesOn now price) purse = refl
change_at (Ends now) purse = refl
change_at (Pays now owed) purse = refl

call_at : (purse : Purse) (call : PurseCall) → (after_call purse call).at.0 ≡ max purse.at.0 (moment_of call).0
call_at purse call = change_at call (after_time purse (moment_of call) (price_until purse call))

later_calls : (purse : Purse) (calls : List PurseCall) → purse.at.0 ≤ (after_calls purse calls).at.0
later_calls purse [] = omega arith
later_calls purse (call ∷ calls) = omega (arith, later_calls (after_call purse call) calls, call_at purse call)

-- ---- who pays of a purse

-- One of its funds is this, pays so, and has so much back.
record IsFund (fund_of : Purse → Fund) (pays : Purse → Price → Bool) (back : ℕ) : Type 0 where
  keeps : (purse : Purse) → AreInOrder purse → InOrder (fund_of purse)
  awaited : (purse : Purse) (price : Price) → pays purse price ≡ true → 0 < purse.waiting
  unspent : (purse : Purse) (price : Price) → pays purse price ≡ true → (fund_of purse).spent ≡ false
  settled : (purse : Purse) (now : Moment) (price : Price) → fund_of (after_time purse now price) ≡ fund_after (fund_of purse) (paid_rate (pays purse price) price * paid_time (now.0 - purse.at.0)) (back * (now.0 - purse.at.0))
  no_less : (call : PurseCall) (purse : Purse) → AreInOrder purse → (fund_of purse).lacks ≤ (fund_of (change_by call purse)).lacks

common_no_less : (call : PurseCall) (purse : Purse) → AreInOrder purse → purse.common.lacks ≤ (change_by call purse).common.lacks
common_no_less (Begins now price) purse order = omega arith
common_no_less (GoesOn now price) purse order = omega arith
common_no_less (Ends now) purse order = omega arith
common_no_less (Pays now owed) purse order = omega (arith, order.common.within)

common_is_fund : IsFund (λ purse. purse.common) common_pays common_back
common_is_fund = record {
  keeps = λ purse order. order.common;
  awaited = λ purse price paying. grind (arith, paying);
  unspent = λ purse price paying. grind (arith, paying);
  settled = λ purse now price. refl;
  no_less = common_no_less;
}

trust_no_less : (call : PurseCall) (purse : Purse) → AreInOrder purse → purse.trust.lacks ≤ (change_by call purse).trust.lacks
trust_no_less (Begins now price) purse order = omega arith
trust_no_less (GoesOn now price) purse order = omega arith
trust_no_less (Ends now) purse order = omega arith
trust_no_less (Pays now owed) purse order = omega arith

trust_is_fund : IsFund (λ purse. purse.trust) trust_pays trust_back
trust_is_fund = record {
  keeps = λ purse order. order.trust;
  awaited = λ purse price paying. grind (arith, paying);
  unspent = λ purse price paying. grind (arith, paying);
  settled = λ purse now price. refl;
  no_less = trust_no_less;
}

-- what a time costs is small, and what pays it isn't spent
small_by : (fund_of : Purse → Fund) (pays : Purse → Price → Bool) (back : ℕ) → IsFund fund_of pays back
    → (purse : Purse) (now : Moment) (price : Price) → (0 < purse.waiting → now.0 ≤ purse.at.0 + tenth)
    → (paying : Bool) → pays purse price ≡ paying → paid_rate paying price * (now.0 - purse.at.0) ≤ least_fund
small_by fund_of pays back is purse now price in_time false same = omega arith
small_by fund_of pays back is purse now price in_time true same =
    rate_within price (now.0 - purse.at.0) (omega (arith, in_time (is.awaited purse price same)))

unspent_by : (fund_of : Purse → Fund) (pays : Purse → Price → Bool) (back : ℕ) → IsFund fund_of pays back
    → (purse : Purse) (price : Price) (time : ℕ) → (paying : Bool) → pays purse price ≡ paying
    → 0 < paid_rate paying price * time → (fund_of purse).spent ≡ false
unspent_by fund_of pays back is purse price time false same costs = absurd (omega (arith, costs))
unspent_by fund_of pays back is purse price time true same costs = is.unspent purse price same

-- where it costs something all of it is paid
paid_by : (fund_of : Purse → Fund) (pays : Purse → Price → Bool) (back : ℕ) → IsFund fund_of pays back
    → (purse : Purse) (now : Moment) (price : Price) → (0 < purse.waiting → now.0 ≤ purse.at.0 + tenth)
    → (paying : Bool) → pays purse price ≡ paying
    → paid_rate paying price * paid_time (now.0 - purse.at.0) ≡ paid_rate paying price * (now.0 - purse.at.0)
paid_by fund_of pays back is purse now price in_time false same = omega arith
paid_by fund_of pays back is purse now price in_time true same =
    let all : paid_time (now.0 - purse.at.0) ≡ now.0 - purse.at.0 = omega (arith, in_time (is.awaited purse price same)) in
    rw all refl

-- the parts of a time have the parts of what comes back in it
split : (back begun next ends : ℕ) → begun ≤ next → next ≤ ends → back * (ends - begun) ≡ back * (next - begun) + back * (ends - next)
split back begun next ends first second =
    let parts : ends - begun ≡ (next - begun) + (ends - next) = omega (arith, first, second) in
    rw parts (mul-add back (next - begun) (ends - next))

-- what a time costs is lacking after it, and no more than its part comes back
time_step : (fund_of : Purse → Fund) (pays : Purse → Price → Bool) (back : ℕ) → IsFund fund_of pays back
    → (purse : Purse) (now : Moment) (price : Price) → AreInOrder purse → (0 < purse.waiting → now.0 ≤ purse.at.0 + tenth)
    → paid_rate (pays purse price) price * (now.0 - purse.at.0) + (fund_of purse).lacks ≤ (fund_of (after_time purse now price)).lacks + back * (now.0 - purse.at.0)
time_step fund_of pays back is purse now price order in_time =
    let time = now.0 - purse.at.0 in
    let small = small_by fund_of pays back is purse now price in_time (pays purse price) refl in
    let unspent = unspent_by fund_of pays back is purse price time (pays purse price) refl in
    let paid = paid_by fund_of pays back is purse now price in_time (pays purse price) refl in
    rw (is.settled purse now price) (rw paid (fund_step (fund_of purse) (paid_rate (pays purse price) price * time) (back * time) (is.keeps purse order) small unspent))

-- the same of a call
call_step : (fund_of : Purse → Fund) (pays : Purse → Price → Bool) (back : ℕ) → IsFund fund_of pays back
    → (purse : Purse) (call : PurseCall) → AreInOrder purse → (0 < purse.waiting → (moment_of call).0 ≤ purse.at.0 + tenth)
    → paid_rate (pays purse (price_until purse call)) (price_until purse call) * ((moment_of call).0 - purse.at.0) + (fund_of purse).lacks
    ≤ (fund_of (after_call purse call)).lacks + back * ((after_call purse call).at.0 - purse.at.0)
call_step fund_of pays back is purse call order in_time =
    let now = moment_of call in
    let price = price_until purse call in
    let between : Purse = after_time purse now price in
    let step = time_step fund_of pays back is purse now price order in_time in
    let more = is.no_less call between (time_in_order purse now price) in
    let same : (after_call purse call).at.0 - purse.at.0 ≡ now.0 - purse.at.0 = omega (arith, call_at purse call) in
    rw same (omega (arith, step, more))

-- and of any number
calls_step : (fund_of : Purse → Fund) (pays : Purse → Price → Bool) (back : ℕ) → IsFund fund_of pays back
    → (purse : Purse) (calls : List PurseCall) → AreInOrder purse → AreInTime purse calls
    → waited_cost pays purse calls + (fund_of purse).lacks ≤ (fund_of (after_calls purse calls)).lacks + back * ((after_calls purse calls).at.0 - purse.at.0)
calls_step fund_of pays back is purse [] order in_time = omega arith
calls_step fund_of pays back is purse (call ∷ calls) order in_time =
    let next : Purse = after_call purse call in
    let first = call_step fund_of pays back is purse call order in_time.0 in
    let rest = calls_step fund_of pays back is next calls (call_in_order purse call) in_time.1 in
    let ends = (after_calls next calls).at.0 in
    let parts : back * (ends - purse.at.0) ≡ back * (next.at.0 - purse.at.0) + back * (ends - next.at.0) =
    split back purse.at.0 next.at.0 ends (omega (arith, call_at purse call)) (later_calls next calls) in
    omega (arith, first, rest, parts)

-- a new purse
new_in_order : InOrder (record { lacks = 0; spent = false })
new_in_order = record { within = omega arith; holds = λ unspent. omega arith }

pub new_is_bounded : (purse : Purse) → purse.common ≡ record { lacks = 0; spent = false } → purse.trust ≡ record { lacks = 0; spent = false } → IsBounded purse
new_is_bounded purse common trust before calls in_time =
    let order : AreInOrder purse = record { common = rw common new_in_order; trust = rw trust new_in_order } in
    let begun : Purse = after_calls purse before in
    let sound : AreInOrder begun = calls_in_order purse before order in
    let ends : AreInOrder (after_calls begun calls) = calls_in_order begun calls sound in (
      omega (arith, calls_step (λ purse. purse.common) common_pays common_back common_is_fund begun calls sound in_time, ends.common.within),
      omega (arith, calls_step (λ purse. purse.trust) trust_pays trust_back trust_is_fund begun calls sound in_time, ends.trust.within),
    )
