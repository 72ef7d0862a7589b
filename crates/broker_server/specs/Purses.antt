-- What a topic's senders wait for those who take slowly. Times are in nanoseconds, and what waiting costs
-- is in six-hundredths of one, so that a sixtieth of a time and a six-hundredth of it are whole numbers.
use Rattle.std.specs.Prelude.{ℕ, ◌<◌, ◌≤◌, [], ◌∷◌, ◌+◌, ◌-◌, ◌*◌, ◌/◌, ◌%◌, nat_lt, nat_le, min, max, Bool, false, true, not, ◌&&◌, ◌||◌, ◌==◌, List, sum_by, replicate, get_or, slice_set, Option, Some, None, is_some, if◌then◌else◌}
use Rattle.std.specs.List.{range_with_len}
use Rattle.broker_server.specs.declared.serving.moment.Moment.{Moment}
use Rattle.broker_server.specs.declared.serving.price.Price.{Price}
use Rattle.broker_server.specs.declared.serving.price.Price.TheVariants.{Free, Sixtieth, Full, Trusted}
use Rattle.broker_server.specs.declared.serving.tenths.Tenth.{Tenth}
use Rattle.broker_server.specs.declared.serving.pace.Pace.{Pace}
use Rattle.broker_server.specs.declared.serving.fund.Fund.{Fund}
use Rattle.broker_server.specs.declared.serving.purse.Purse.{Purse}
use Rattle.broker_server.specs.declared.serving.account.Account.{Account}
use Rattle.broker_server.specs.Counts.{plus}

-- ---- times

abbrev pub second : ℕ
second = 1000000000

-- a tenth of a second
abbrev pub tenth : ℕ
tenth = 100000000

-- the later of two moments
abbrev pub later_moment : Moment → Moment → Moment
later_moment one other = record { 0 = max one.0 other.0 }

-- how long something has lasted at this moment that began at that one, if it did
abbrev pub time_since : Option Moment → Moment → ℕ
time_since None now = 0
time_since (Some began) now = now.0 - began.0

-- ---- prices

-- what a nanosecond of waiting costs
abbrev pub rate : Price → ℕ
rate Free = 0
rate Sixtieth = 10
rate Full = 600
rate Trusted = 600

-- Its place among the prices, the dearest last. Waiting for one that is trusted is paid by what is there for these,
-- so it counts first.
abbrev pub rank : Price → ℕ
rank Free = 0
rank Sixtieth = 1
rank Full = 2
rank Trusted = 3

-- The other is dearer.
abbrev pub is_below : Price → Price → Bool
is_below one other = nat_lt (rank one) (rank other)

-- the dearer of two prices
abbrev pub dearer : Price → Price → Price
dearer one other = if is_below one other then other else one

abbrev pub is_free : Price → Bool
is_free price = rate price == 0

-- that of one that is trusted
abbrev pub is_trusted : Price → Bool
is_trusted price = rank price == 3

-- what one costs that is trusted, and would cost so much else
abbrev pub as_trusted : Price → Price
as_trusted price = if is_free price then Free else Trusted

-- ---- octets by tenths of a second

-- of no tenth
abbrev pub no_tenth : Tenth
no_tenth = record { number = 0; octets = 0 }

-- nothing was taken
abbrev pub no_tenths : List Tenth
no_tenths = replicate 11 no_tenth

-- how many octets were taken in the tenth of this number, of those that lie near it
abbrev pub tenth_octets : List Tenth → ℕ → ℕ
tenth_octets tenths number =
    let t = get_or tenths (number % 11) no_tenth in
    if t.number == number then t.octets else 0

-- The same after more octets at this moment: its tenth takes the place of the one that is eleven tenths
-- older, or 22.
abbrev pub tenths_after : List Tenth → Moment → ℕ → List Tenth
tenths_after tenths now octets =
    let number = now.0 / tenth in
    let sum = plus (tenth_octets tenths number) octets in
    slice_set tenths (number % 11) (record { number = number; octets = sum })

-- how many octets of the tenth that is so many tenths back count: of each tenth at most so many
abbrev pub counted_octets : List Tenth → Moment → ℕ → ℕ → ℕ
counted_octets tenths now most back =
    if nat_le back (now.0 / tenth) then min (tenth_octets tenths (now.0 / tenth - back)) most else 0

-- how many count in the last eleven tenths, in which the last second lies
abbrev pub lately_taken : List Tenth → Moment → ℕ → ℕ
lately_taken tenths now most = sum_by (counted_octets tenths now most) (range_with_len 0 11)

-- ---- the pace of a connection, by what the system takes of what it writes

-- so many octets a second are fast
abbrev pub fast : ℕ
fast = 8388608

-- and so many slow
abbrev pub slow : ℕ
slow = 65536

-- So many octets in a time are so many a second, or more.
abbrev pub has_rate : ℕ → ℕ → ℕ → Bool
has_rate octets time wanted = nat_le (wanted * time) (octets * second)

-- The octets that were taken lately are so many a second over this time, or more: of each tenth of a second
-- at most so many count.
abbrev pub is_taking : List Tenth → Moment → ℕ → ℕ → ℕ → Bool
is_taking tenths now time wanted most = has_rate (lately_taken tenths now most) time wanted

-- twice what a tenth of a second has of so many octets a second, rounded up
abbrev pub twice_a_tenth : ℕ → ℕ
twice_a_tenth octets = octets / 5 + 1

-- so many octets are more than the system's buffers hold
abbrev pub most_buffered : ℕ
most_buffered = 8388608

-- It cost nothing when it was behind last, and took more than the system's buffers hold.
abbrev pub is_proven : Pace → Bool
is_proven pace = is_free pace.known && nat_le most_buffered pace.ever

-- nothing for who is fast, a sixtieth for who is slow, else all
abbrev pub pace_price : Bool → Bool → Price
pace_price is_fast is_slow = if is_fast then Free else if is_slow then Sixtieth else Full

-- how much of a tenth counts for being fast, and for being slow: twice its share, since the system's buffers
-- take much at once; all that a second has where they are known to hold less than was taken, or, for being slow,
-- something was taken again a tenth of a second after it fell behind
abbrev pub fast_tenth : Pace → ℕ
fast_tenth pace = if is_proven pace then fast else twice_a_tenth fast

abbrev pub slow_tenth : Pace → ℕ
slow_tenth pace = if nat_le most_buffered pace.ever || pace.resumed then slow else twice_a_tenth slow

-- It may pause: it took more than the system's buffers hold while it was behind, and so much at once, within the last
-- two seconds, that it is slow for as long, if it has caught up since or not.
abbrev pub may_pause : Pace → Moment → Bool
may_pause pace now =
    nat_le most_buffered pace.ever && is_some pace.gulped && nat_lt (time_since pace.gulped now) (2 * second)

-- the price in the first tenth of being behind: the one that is known, but a sixtieth at least where the system's
-- buffers may have caught up for it
abbrev pub first_price : Pace → Price
first_price pace = if is_proven pace then Free else dearer pace.known Sixtieth

-- the price after so long a time of being behind: in the first tenth that one, else by what was taken since it
-- is behind, over a second at most; one that may pause counts as slow
abbrev pub price_behind : Pace → Moment → ℕ → Price
price_behind pace now time =
    if nat_lt time tenth then first_price pace else
    pace_price (is_taking pace.tenths.tenths now (min time second) fast (fast_tenth pace))
    (may_pause pace now || is_taking pace.tenths.tenths now (min time second) slow (slow_tenth pace))

-- a connection's price: nothing where it isn't behind
abbrev pub price_at : Pace → Moment → Price
price_at pace now = if is_some pace.since then price_behind pace now (time_since pace.since now) else Free

-- It is trusted where it is proven, behind its first tenth of being behind, and within its first second.
abbrev pub is_trusted_at : Pace → Moment → Bool
is_trusted_at pace now =
    let time = time_since pace.since now in
    is_some pace.since && is_proven pace && nat_le tenth time && nat_lt time second

-- the cheaper of two prices
abbrev pub cheaper : Price → Price → Price
cheaper one other = if is_below one other then one else other

-- the price that is known of one that took so many octets while it was behind for this time, until it
-- had taken all, where this one was known before: less than a second makes it no dearer
abbrev pub known_price : Price → ℕ → ℕ → Price
known_price known octets time =
    let price = pace_price (has_rate octets time fast) (has_rate octets time slow) in
    if nat_lt time tenth then Free else if nat_lt time second then cheaper known price else price

-- when it took so much at once last, in one tenth of a second, that it is slow for two, where this was taken then
abbrev pub gulped_after : List Tenth → Moment → Option Moment → Option Moment
gulped_after tenths now gulped = if nat_le (2 * slow) (tenth_octets tenths (now.0 / tenth)) then Some now else gulped

-- a pace after the system took so many octets
abbrev pub after_octets : Pace → Moment → ℕ → Pace
after_octets pace now octets =
    let tenths = tenths_after pace.tenths.tenths now octets in
    if is_some pace.since then record pace {
      taken = plus pace.taken octets;
      tenths = record { tenths = tenths };
      resumed = pace.resumed || nat_le tenth (time_since pace.since now);
      gulped = gulped_after tenths now pace.gulped;
      ever = plus pace.ever octets;
    } else pace

-- after it took less than there was
abbrev pub after_falling_behind : Pace → Moment → Pace
after_falling_behind pace now = if is_some pace.since then pace else record pace {
  since = Some now;
  taken = 0;
  tenths = record { tenths = no_tenths };
  resumed = false;
}

-- after it took all
abbrev pub after_catching_up : Pace → Moment → Pace
after_catching_up pace now = if is_some pace.since then record pace {
  since = None;
  known = known_price pace.known pace.taken (time_since pace.since now);
  given_up = false;
} else pace

-- after it took much while the connection wasn't behind
abbrev pub after_keeping_up : Pace → Pace
after_keeping_up pace = if is_some pace.since then pace else record pace {
  known = Free;
  ever = plus pace.ever most_buffered;
}

-- after the connection was passed over: where it had been behind for a tenth, nothing is known of it any more
abbrev pub after_giving_up : Pace → Moment → Pace
after_giving_up pace now =
    if is_some pace.since && nat_le tenth (time_since pace.since now)
    then record pace { given_up = true; known = Full } else pace

-- ---- the purse of a topic

-- what a full fund holds: a second
abbrev pub full_fund : ℕ
full_fund = 600 * second

-- a tenth of it
abbrev pub least_fund : ℕ
least_fund = 600 * tenth

-- what it lacks at most: who waits looks each tenth of a second, and may then have waited for a tenth more
-- than it held
abbrev pub most_lacking : ℕ
most_lacking = full_fund + least_fund

-- A fund that lacks so much from now on. It is spent once it lacks all, until a tenth is back.
abbrev pub fund_with : Fund → ℕ → Fund
fund_with fund lacks = record {
  lacks = min lacks most_lacking;
  spent = nat_le full_fund lacks || (fund.spent && nat_lt full_fund (lacks + least_fund));
}

-- A fund after a time that cost it so much; where that was nothing so much is back.
abbrev pub fund_after : Fund → ℕ → ℕ → Fund
fund_after fund cost back = fund_with fund (if cost == 0 then fund.lacks - back else fund.lacks + cost)

-- What there is for the trusted pays: somebody waits, one that is trusted lacks room, and it isn't spent.
abbrev pub trust_pays : Purse → Price → Bool
trust_pays purse price = nat_lt 0 purse.waiting && not purse.trust.spent && is_trusted price

-- What is common pays: somebody waits, it isn't spent, and the other doesn't pay.
abbrev pub common_pays : Purse → Price → Bool
common_pays purse price = nat_lt 0 purse.waiting && not purse.common.spent && not (trust_pays purse price)

-- what a nanosecond at this price costs who pays
abbrev pub paid_rate : Bool → Price → ℕ
paid_rate pays price = if pays then rate price else 0

-- how much of a nanosecond that costs nothing comes back: a six-hundredth to what is common, a tenth to the other
abbrev pub common_back : ℕ
common_back = 1

abbrev pub trust_back : ℕ
trust_back = 60

-- Of a time so much is paid, two tenths at most: who waits looks each tenth, so what is more is lateness of ours.
-- So a machine that stood still for a minute, with all that runs on it, costs nobody more.
abbrev pub paid_time : ℕ → ℕ
paid_time time = min time (2 * tenth)

-- a purse after the time until this moment, at this price
abbrev pub after_time : Purse → Moment → Price → Purse
after_time purse now price =
    let time = now.0 - purse.at.0 in
    record purse {
      at = later_moment purse.at now;
      common = fund_after purse.common (paid_rate (common_pays purse price) price * paid_time time) (common_back * time);
      trust = fund_after purse.trust (paid_rate (trust_pays purse price) price * paid_time time) (trust_back * time);
    }

-- Those that lack room may be waited for, where they aren't trusted.
abbrev pub may_wait : Purse → Bool
may_wait purse = is_free purse.price || not purse.common.spent

-- Those may that were found trusted: something is there for them, or is common.
abbrev pub may_trust : Purse → Bool
may_trust purse = not purse.trust.spent || not purse.common.spent

-- what happens at a topic
pub data PurseCall : Type 0 where
  -- somebody finds no room, where the dearest of those that lack it has this price
  Begins : Moment → Price → PurseCall
  -- one that waits finds none again
  GoesOn : Moment → Price → PurseCall
  -- one waits no longer
  Ends : Moment → PurseCall
  -- one that was waited for ends while it is behind, and owes so much
  Pays : Moment → ℕ → PurseCall

-- when it happens
abbrev pub moment_of : PurseCall → Moment
moment_of (Begins now price) = now
moment_of (GoesOn now price) = now
moment_of (Ends now) = now
moment_of (Pays now owed) = now

-- the price of the time until then: the one that is found, else the one that was found last
abbrev pub price_until : Purse → PurseCall → Price
price_until purse (Begins now price) = price
price_until purse (GoesOn now price) = price
price_until purse (Ends now) = purse.price
price_until purse (Pays now owed) = purse.price

-- what else it changes
abbrev pub change_by : PurseCall → Purse → Purse
change_by (Begins now price) purse = record purse { price = price; waiting = plus purse.waiting 1 }
change_by (GoesOn now price) purse = record purse { price = price }
change_by (Ends now) purse = record purse { waiting = purse.waiting - 1 }
change_by (Pays now owed) purse = record purse { common = fund_with purse.common (purse.common.lacks + owed) }

-- a purse after that
abbrev pub after_call : Purse → PurseCall → Purse
after_call purse call = change_by call (after_time purse (moment_of call) (price_until purse call))

abbrev pub after_calls : Purse → List PurseCall → Purse
after_calls purse [] = purse
after_calls purse (call ∷ calls) = after_calls (after_call purse call) calls

-- Where somebody waits, the next call comes within a tenth of a second.
abbrev pub AreInTime : Purse → List PurseCall → Type 0
AreInTime purse [] = Unit
AreInTime purse (call ∷ calls) =
    (0 < purse.waiting → (moment_of call).0 ≤ purse.at.0 + tenth) × AreInTime (after_call purse call) calls

-- what all the time cost in which somebody waited, who pays so
abbrev pub waited_cost : (Purse → Price → Bool) → Purse → List PurseCall → ℕ
waited_cost pays purse [] = 0
waited_cost pays purse (call ∷ calls) =
    let price = price_until purse call in
    paid_rate (pays purse price) price * ((moment_of call).0 - purse.at.0)
    + waited_cost pays (after_call purse call) calls

-- In any stretch of what happens at a topic all waiting costs what is common a second and a tenth at most, and a
-- six-hundredth of the stretch's time: so that who never reads holds a topic's senders up for no longer. And it
-- costs what is there for the trusted a second and a tenth at most, and a tenth of that time.
abbrev pub IsBounded : Purse → Type 0
IsBounded purse = (before calls : List PurseCall) → AreInTime (after_calls purse before) calls
    → let begun = after_calls purse before in
    let time = (after_calls begun calls).at.0 - begun.at.0 in
    (waited_cost common_pays begun calls ≤ most_lacking + common_back * time)
    × (waited_cost trust_pays begun calls ≤ most_lacking + trust_back * time)

-- ---- what a subscription is spared

-- what was spared after a time at this price, a second at most: what the full price would have cost beside it,
-- which pays for two tenths of a time at most
abbrev pub spared_after : ℕ → Price → ℕ → ℕ
spared_after spared price time = min (spared + (600 - rate price) * paid_time time) full_fund

-- They are one moment.
abbrev pub is_one_moment : Option Moment → Option Moment → Bool
is_one_moment (Some one) (Some other) = one.0 == other.0
is_one_moment one other = false

-- what it was spared since its connection is behind, with a time that wasn't paid for yet; nothing of what
-- it was spared when its connection was behind before
abbrev pub spared_at : Account → Pace → Moment → ℕ → ℕ
spared_at account pace now unpaid =
    spared_after (if is_one_moment account.behind pace.since then account.spared.0 else 0) (price_at pace now)
    (min unpaid (time_since pace.since now))

-- since when a thread is late that is late now: since a fresh look
abbrev pub late_since : Moment → Bool → Option Moment → Moment
late_since now fresh None = now
late_since now fresh (Some late) = if fresh then now else late

-- the price where it lacks room: its connection's, or, where that isn't behind, nothing until its thread
-- has been late for a second
abbrev pub price_at_look : Account → Pace → Moment → Bool → Price
price_at_look account pace now fresh =
    if is_some pace.since then price_at pace now else
    if nat_lt (now.0 - (late_since now fresh account.late).0) second then Free else Full

-- an account after it lacked room
abbrev pub account_at_look : Account → Pace → Moment → ℕ → Bool → Account
account_at_look account pace now unpaid fresh = record {
  behind = pace.since;
  spared = record { 0 = spared_at account pace now unpaid };
  late = if is_some pace.since then None else Some (late_since now fresh account.late);
}

-- what it owes where it ends: nothing, unless its connection is behind, and it lacked room since it is
abbrev pub debt : Account → Pace → Moment → ℕ → ℕ
debt account pace now unpaid =
    if is_one_moment account.behind pace.since then spared_at account pace now unpaid else 0

-- ---- the log's line

-- None came in the last second.
abbrev pub is_line_due : Option Moment → Moment → Bool
is_line_due last now = not (is_some last) || nat_le second (time_since last now)
