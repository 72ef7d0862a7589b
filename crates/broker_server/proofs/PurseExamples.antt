-- Worked examples of what a topic's senders wait for those who take slowly.
use Rattle.std.proofs.Common.{◌≡◌, ℕ, ◌*◌, true, false, List, [], ◌∷◌, Some, None, refl, arith}
use Rattle.broker_server.specs.declared.serving.moment.Moment.{Moment}
use Rattle.broker_server.specs.declared.serving.price.Price.{Price}
use Rattle.broker_server.specs.declared.serving.price.Price.TheVariants.{Free, Sixtieth, Full, Trusted}
use Rattle.broker_server.specs.declared.serving.tenths.Tenth.{Tenth}
use Rattle.broker_server.specs.declared.serving.pace.Pace.{Pace}
use Rattle.broker_server.specs.declared.serving.fund.Fund.{Fund}
use Rattle.broker_server.specs.declared.serving.purse.Purse.{Purse}
use Rattle.broker_server.specs.declared.serving.account.Account.{Account}
use Rattle.broker_server.specs.Purses.{tenth, later_moment, time_since, dearer, no_tenths, tenth_octets, tenths_after, lately_taken, has_rate, price_at, known_price, after_octets, after_falling_behind, after_catching_up, after_keeping_up, after_giving_up, is_proven, is_trusted_at, as_trusted, full_fund, most_lacking, fund_with, after_time, paid_time, may_wait, may_trust, common_pays, trust_pays, PurseCall, Begins, GoesOn, Ends, Pays, after_call, after_calls, AreInTime, waited_cost, spared_after, spared_at, price_at_look, account_at_look, debt, is_line_due}

-- this many tenths of a second from the clock's beginning
abbrev at : ℕ → Moment
at tenths = record { 0 = tenths * tenth }

-- ---- times

pub a_later_moment : later_moment (at 3) (at 5) ≡ at 5
a_later_moment = refl

-- a moment that is earlier than the beginning has lasted for nothing
pub no_time_back : time_since (Some (at 5)) (at 3) ≡ 0
no_time_back = refl

-- ---- prices

pub the_dearer : dearer Sixtieth Full ≡ Full
the_dearer = refl

pub dearer_than_nothing : dearer Sixtieth Free ≡ Sixtieth
dearer_than_nothing = refl

-- one that is trusted counts first, and one that costs nothing isn't dearer for that
pub trusted_counts_first : dearer Full Trusted ≡ Trusted
trusted_counts_first = refl

pub trusted_for_nothing : as_trusted Free ≡ Free
trusted_for_nothing = refl

pub trusted_for_a_sixtieth : as_trusted Sixtieth ≡ Trusted
trusted_for_a_sixtieth = refl

-- ---- octets by tenths

-- 100 octets in tenth 23, and 50 more there
abbrev some_tenths : List Tenth
some_tenths = tenths_after (tenths_after no_tenths (record { 0 = 2350000000 }) 100) (record { 0 = 2380000000 }) 50

pub counted_together : tenth_octets some_tenths 23 ≡ 150
counted_together = refl

-- tenth 34 takes its place
pub forgotten : tenth_octets (tenths_after some_tenths (at 34) 7) 23 ≡ 0
forgotten = refl

-- ten tenths later they count still, at most 120 of them, and eleven tenths later no more
pub counts_a_second : lately_taken some_tenths (at 33) 120 ≡ 120
counts_a_second = refl

pub counts_no_longer : lately_taken some_tenths (at 34) 120 ≡ 0
counts_no_longer = refl

-- ---- paces

-- 3,000 octets in two seconds are 1,500 a second, and not 1,501
pub a_rate : has_rate 3000 2000000000 1500 ≡ true
a_rate = refl

pub no_more : has_rate 3000 2000000000 1501 ≡ false
no_more = refl

-- a connection of which nothing is known
abbrev newcomer : Pace
newcomer = record { since = None; taken = 0; tenths = record { tenths = no_tenths }; resumed = false; gulped = None; known = Full; given_up = false; ever = 0 }

-- one that is behind since the tenth second, and had so many octets taken in each of these five tenths
abbrev taking : ℕ → Pace
taking octets = after_octets (after_octets (after_octets (after_octets (after_octets (after_falling_behind newcomer (at 100)) (at 100) octets) (at 101) octets) (at 102) octets) (at 103) octets) (at 104) octets

-- it costs all in its first tenth, whatever it takes
pub new_costs_all : price_at (after_octets (after_falling_behind newcomer (at 100)) (at 100) 1000000) (record { 0 = 10099999999 }) ≡ Full
new_costs_all = refl

-- 10 MB a second cost nothing, 100 KB a second a sixtieth, 10 KB a second all
pub fast_is_free : price_at (taking 1000000) (at 105) ≡ Free
fast_is_free = refl

pub slow_costs_a_sixtieth : price_at (taking 10000) (at 105) ≡ Sixtieth
slow_costs_a_sixtieth = refl

pub slower_costs_all : price_at (taking 1000) (at 105) ≡ Full
slower_costs_all = refl

-- 4 MiB that the system's buffers took at once, and nothing since
pub buffers_are_no_pace : price_at (after_octets (after_falling_behind newcomer (at 100)) (at 100) 4194304) (at 105) ≡ Full
buffers_are_no_pace = refl

-- nor all that they took in the first tenth
pub nor_a_tenth_later : price_at (after_octets (after_falling_behind newcomer (at 100)) (record { 0 = 10099999999 }) 4194304) (at 105) ≡ Full
nor_a_tenth_later = refl

-- but what is taken two tenths after it fell behind, by a client that the machine stops for long, counts for a second
abbrev stopped : Pace
stopped = after_octets (after_falling_behind newcomer (at 100)) (at 102) 200000

pub reads_at_times : price_at stopped (at 112) ≡ Sixtieth
reads_at_times = refl

pub and_not_since : price_at stopped (at 113) ≡ Full
and_not_since = refl

-- and no longer once it fell behind anew
pub resumes_anew : price_at (after_octets (after_falling_behind (after_catching_up stopped (at 103)) (at 104)) (at 104) 4194304) (at 109) ≡ Full
resumes_anew = refl

-- one that took 9 MB while it was behind, the last 200,000 octets at once, and then nothing for 19 tenths, costs a sixtieth
-- still, and all after two seconds: what its buffers hold it had taken before
abbrev pausing : Pace
pausing = after_octets (after_octets (after_falling_behind newcomer (at 100)) (at 100) 8800000) (at 110) 200000

pub paused_for_a_while : price_at pausing (at 129) ≡ Sixtieth
paused_for_a_while = refl

pub paused_too_long : price_at pausing (at 130) ≡ Full
paused_too_long = refl

-- where these were 100,000 all after eleven tenths
abbrev sipping : Pace
sipping = after_octets (after_octets (after_falling_behind newcomer (at 100)) (at 100) 8800000) (at 110) 100000

pub less_counts_for_a_second : price_at sipping (at 120) ≡ Sixtieth
less_counts_for_a_second = refl

pub and_no_longer : price_at sipping (at 121) ≡ Full
and_no_longer = refl

-- so where it has caught up since, as behind a pause in which its queue was emptied: 12.9 seconds from the beginning it
-- has taken nothing since it fell behind at 11.2, and so much at once at 11.0
abbrev caught_up : Pace
caught_up = after_falling_behind (after_catching_up pausing (at 111)) (at 112)

pub paused_since_it_caught_up : price_at caught_up (at 129) ≡ Sixtieth
paused_since_it_caught_up = refl

pub paused_too_long_since : price_at caught_up (at 130) ≡ Full
paused_too_long_since = refl

-- but not what the buffers may have held, nor small pieces
pub newcomers_may_not_pause : price_at (after_falling_behind (after_catching_up (taking 600000) (at 105)) (at 106)) (at 108) ≡ Full
newcomers_may_not_pause = refl

pub small_pieces_are_no_gulp : (after_octets (after_octets (after_falling_behind newcomer (at 100)) (at 100) 80000) (at 101) 80000).gulped ≡ None
small_pieces_are_no_gulp = refl

-- one that isn't behind costs nothing
pub not_behind : price_at newcomer (at 105) ≡ Free
not_behind = refl

-- what was taken then doesn't count
pub not_counted : after_octets newcomer (at 99) 4194304 ≡ newcomer
not_counted = refl

-- one that was behind for half a second has its price in its next first tenth
pub price_is_known : price_at (after_falling_behind (after_catching_up (taking 10000) (at 105)) (at 200)) (at 200) ≡ Sixtieth
price_is_known = refl

-- one that was behind for less than a tenth costs a sixtieth then, as long as buffers may have caught up for it; one
-- that kept up costs nothing
pub soon_caught_up : price_at (after_falling_behind (after_catching_up (after_falling_behind newcomer (at 100)) (record { 0 = 10099999999 })) (at 200)) (at 200) ≡ Sixtieth
soon_caught_up = refl

pub kept_up : price_at (after_falling_behind (after_keeping_up newcomer) (at 200)) (at 200) ≡ Free
kept_up = refl

-- but one that is behind doesn't keep up
pub too_late : after_keeping_up (taking 10000) ≡ taking 10000
too_late = refl

-- nor is it known before it has caught up
pub falls_once : after_falling_behind (taking 10000) (at 200) ≡ taking 10000
falls_once = refl

-- one that took 9 MB in half a second of being behind is proven then, and one that kept up; one that took 3 MB so isn't,
-- nor one that was passed over meanwhile and was slow
abbrev proven : Pace
proven = after_catching_up (taking 1800000) (at 105)

pub took_more_than_buffers_hold : is_proven proven ≡ true
took_more_than_buffers_hold = refl

pub kept_up_with_as_much : is_proven (after_keeping_up newcomer) ≡ true
kept_up_with_as_much = refl

pub buffers_may_hold_so_much : is_proven (after_catching_up (taking 600000) (at 105)) ≡ false
buffers_may_hold_so_much = refl

pub proven_no_longer : is_proven (after_catching_up (after_giving_up (after_octets (after_falling_behind proven (at 200)) (at 205) 50000) (at 206)) (at 207)) ≡ false
proven_no_longer = refl

pub proven_anew : is_proven (after_catching_up (after_giving_up (after_octets (after_falling_behind proven (at 200)) (at 205) 9000000) (at 206)) (at 207)) ≡ true
proven_anew = refl

-- it is trusted from its first tenth on until a second is over
pub not_in_its_first_tenth : is_trusted_at (after_falling_behind proven (at 200)) (record { 0 = 20099999999 }) ≡ false
not_in_its_first_tenth = refl

pub trusted_then : is_trusted_at (after_falling_behind proven (at 200)) (at 201) ≡ true
trusted_then = refl

pub trusted_until_a_second : is_trusted_at (after_falling_behind proven (at 200)) (record { 0 = 20999999999 }) ≡ true
trusted_until_a_second = refl

pub not_after_a_second : is_trusted_at (after_falling_behind proven (at 200)) (at 210) ≡ false
not_after_a_second = refl

pub newcomers_aren't_trusted : is_trusted_at (after_falling_behind newcomer (at 200)) (at 201) ≡ false
newcomers_aren't_trusted = refl

-- what it takes in one tenth pays for a second: 4 MB for four tenths, which of one that isn't proven cost a sixtieth
pub free_at_once : price_at (after_octets (after_falling_behind proven (at 200)) (at 203) 4000000) (at 204) ≡ Free
free_at_once = refl

pub not_at_once : price_at (after_octets (after_falling_behind newcomer (at 200)) (at 203) 4000000) (at 204) ≡ Sixtieth
not_at_once = refl

-- what it took while it was behind, over all of that time: 9 MB in one second, and in two
pub known_fast : known_price Full 9000000 1000000000 ≡ Free
known_fast = refl

pub known_slow : known_price Free 9000000 2000000000 ≡ Sixtieth
known_slow = refl

-- half a second makes one that was fast no dearer
pub fast_still : known_price Free 1000000 500000000 ≡ Free
fast_still = refl

pub no_better_known : known_price Full 1000000 500000000 ≡ Sixtieth
no_better_known = refl

-- one that is passed over in its first tenth isn't given up, later it is, and when it caught up no longer
pub not_yet : (after_giving_up (after_falling_behind newcomer (at 100)) (record { 0 = 10099999999 })).given_up ≡ false
not_yet = refl

pub given_up : (after_giving_up (after_falling_behind newcomer (at 100)) (at 101)).given_up ≡ true
given_up = refl

pub no_longer : (after_catching_up (after_giving_up (after_falling_behind newcomer (at 100)) (at 101)) (at 102)).given_up ≡ false
no_longer = refl

-- ---- funds

abbrev full : Fund
full = record { lacks = 0; spent = false }

abbrev empty : Fund
empty = record { lacks = full_fund; spent = true }

-- one that has a tenth back isn't spent, and one that paid half of that isn't either
pub has_a_tenth : (fund_with empty 540000000000).spent ≡ false
has_a_tenth = refl

pub pays_on : (fund_with (fund_with empty 540000000000) 570000000000).spent ≡ false
pays_on = refl

-- ---- purses

-- a full one where somebody waits since the tenth second, at this price
abbrev waiting_at : Price → Purse
waiting_at price = record { common = full; trust = full; at = at 100; waiting = 1; price = price }

-- one in which nothing is left that is common, and where nobody waits since then
abbrev spent_purse : Purse
spent_purse = record { common = empty; trust = full; at = at 100; waiting = 0; price = Full }

-- the same once nine tenths of a second were paid, a tenth at each look
abbrev paid_nine : Price → Purse
paid_nine price = record (waiting_at price) { common = record { lacks = 540000000000; spent = false }; at = at 109 }

-- it pays for a second less a nanosecond at the full price, and is empty after a second
pub pays_a_tenth : (after_time (waiting_at Full) (at 101) Full).common.lacks ≡ 60000000000
pays_a_tenth = refl

pub pays_in_full : may_wait (after_call (paid_nine Full) (GoesOn (record { 0 = 10999999999 }) Full)) ≡ true
pays_in_full = refl

pub is_empty : after_call (paid_nine Full) (GoesOn (at 110) Full) ≡ record (waiting_at Full) { common = empty; at = at 110 }
is_empty = refl

pub passes_over : may_wait (after_call (paid_nine Full) (GoesOn (at 110) Full)) ≡ false
passes_over = refl

-- a tenth at a sixtieth takes a six-hundredth of what it holds, so that it pays for a minute
pub a_tenth_at_a_sixtieth : (after_time (waiting_at Sixtieth) (at 101) Sixtieth).common.lacks ≡ 1000000000
a_tenth_at_a_sixtieth = refl

pub empty_after_a_minute : (after_time (record (waiting_at Sixtieth) { common = record { lacks = 599000000000; spent = false }; at = at 699 }) (at 700) Sixtieth).common.spent ≡ true
empty_after_a_minute = refl

-- a time that costs nothing costs nothing, and a full purse isn't more than full
pub free_for_ever : after_time (waiting_at Free) (at 100000) Free ≡ record (waiting_at Free) { at = at 100000 }
free_for_ever = refl

-- who waited for two seconds before anybody looked pays two tenths of that
pub nobody_looked : (after_time (waiting_at Full) (at 120) Full).common.lacks ≡ 600 * paid_time (20 * tenth)
nobody_looked = refl

pub two_tenths_of_it : 600 * paid_time (20 * tenth) ≡ 120000000000
two_tenths_of_it = refl

-- who waited for two tenths before anybody looked, where it held one, took that, and a tenth that it did not
pub a_tenth_more : (after_time (paid_nine Full) (at 111) Full).common.lacks ≡ most_lacking
a_tenth_more = refl

-- an empty one is full after ten minutes, and pays nothing until one minute has passed
pub comes_back : (after_time spent_purse (at 6100) Free).common.lacks ≡ 0
comes_back = refl

pub not_in_59_seconds : may_wait (after_call spent_purse (Begins (at 699) Full)) ≡ false
not_in_59_seconds = refl

pub after_a_minute : may_wait (after_call spent_purse (Begins (at 700) Full)) ≡ true
after_a_minute = refl

-- who costs nothing is waited for still, and what is empty comes back then, too
pub free_at_an_empty_one : may_wait (after_call spent_purse (Begins (at 101) Free)) ≡ true
free_at_an_empty_one = refl

pub empty_and_awaited : (after_time (record spent_purse { waiting = 1 }) (at 110) Free).common.lacks ≡ 599000000000
empty_and_awaited = refl

-- for the trusted it pays beside that for a second, and they may be waited for, where others may not
pub pays_for_the_trusted : (after_time (record spent_purse { waiting = 1 }) (at 102) Trusted).trust.lacks ≡ 120000000000
pays_for_the_trusted = refl

pub trusted_may : may_trust (after_call (record spent_purse { waiting = 1 }) (GoesOn (at 109) Trusted)) ≡ true
trusted_may = refl

pub others_may_not : may_wait (after_call (record spent_purse { waiting = 1 }) (GoesOn (at 109) Trusted)) ≡ false
others_may_not = refl

-- which has paid for nine tenths of a second of theirs
abbrev trusted_for_nine : Purse
trusted_for_nine = record spent_purse { waiting = 1; at = at 109; trust = record { lacks = 540000000000; spent = false } }

pub nor_the_trusted_after_a_second : may_trust (after_call trusted_for_nine (GoesOn (at 110) Trusted)) ≡ false
nor_the_trusted_after_a_second = refl

-- what is common pays nothing meanwhile; once the other is spent it pays
pub nothing_of_what_is_common : (after_time (waiting_at Trusted) (at 102) Trusted).common.lacks ≡ 0
nothing_of_what_is_common = refl

pub then_what_is_common : (after_time (record (waiting_at Trusted) { trust = empty }) (at 102) Trusted).common.lacks ≡ 120000000000
then_what_is_common = refl

-- what there is for the trusted comes back in ten seconds, also while others are waited for
pub trust_comes_back : (after_time (record (waiting_at Full) { trust = empty }) (at 199) Full).trust.lacks ≡ 6000000000
trust_comes_back = refl

-- one that ends behind, and was spared half a second, pays that
pub pays_what_was_spared : (after_call (waiting_at Free) (Pays (at 101) 300000000000)).common.lacks ≡ 300000000000
pays_what_was_spared = refl

-- one waits for a tenth of a second at the full price, for another at a sixtieth, for one for one that is trusted, and
-- then for nothing
abbrev some_calls : List PurseCall
some_calls = GoesOn (at 101) Full ∷ GoesOn (at 102) Sixtieth ∷ GoesOn (at 103) Trusted ∷ GoesOn (at 104) Free ∷ Ends (at 105) ∷ []

pub cost_of_these : waited_cost common_pays (waiting_at Full) some_calls ≡ 61000000000
cost_of_these = refl

pub cost_of_the_trusted : waited_cost trust_pays (waiting_at Full) some_calls ≡ 60000000000
cost_of_the_trusted = refl

pub nobody_waits : (after_calls (waiting_at Full) some_calls).waiting ≡ 0
nobody_waits = refl

pub came_in_time : AreInTime (waiting_at Full) some_calls
came_in_time = (λ some. omega arith, (λ some. omega arith, (λ some. omega arith, (λ some. omega arith, (λ some. omega arith, tt)))))

-- ---- what is spared

-- a tenth of a second that cost nothing; one that cost a sixtieth, where almost a second was spared: a second, and no more
pub spared_a_tenth : spared_after 0 Free tenth ≡ 60000000000
spared_a_tenth = refl

pub spared_a_second : spared_after 599000000000 Sixtieth tenth ≡ full_fund
spared_a_second = refl

-- a minute before anybody looked, as of a machine that stood still: two tenths of that, as the full price pays for no more
pub spared_of_a_minute : spared_after 0 Sixtieth 60000000000 ≡ 590 * paid_time 60000000000
spared_of_a_minute = refl

pub spared_of_two_tenths : 590 * paid_time 60000000000 ≡ 118000000000
spared_of_two_tenths = refl

-- the full price spares nothing
pub spared_nothing : spared_after 7 Full 500000000 ≡ 7
spared_nothing = refl

abbrev new_account : Account
new_account = record { behind = None; spared = record { 0 = 0 }; late = None }

-- a fast one was waited for for a tenth of a second; it owes that where it ends, with a twentieth more, or two tenths of what
-- was waited since
abbrev looked : Account
looked = account_at_look new_account (taking 1000000) (at 105) tenth false

pub owes_what_it_was_spared : debt looked (taking 1000000) (at 105) 50000000 ≡ 90000000000
owes_what_it_was_spared = refl

pub owes_what_is_paid : debt looked (taking 1000000) (at 105) 450000000 ≡ 180000000000
owes_what_is_paid = refl

-- one that has caught up owes nothing, nor does one that wasn't waited for
pub caught_up_owes_nothing : debt looked (after_catching_up (taking 1000000) (at 105)) (at 105) 250000000 ≡ 0
caught_up_owes_nothing = refl

pub not_waited_for : debt new_account (taking 1000000) (at 105) 250000000 ≡ 0
not_waited_for = refl

-- what it was waited for before it fell behind isn't spared: a twentieth of a second ago, where that costs nothing
pub not_before : spared_at new_account (after_falling_behind proven (at 200)) (record { 0 = 20050000000 }) tenth ≡ 30000000000
not_before = refl

-- ---- threads that are late

-- it isn't behind: that costs nothing for a second since the first look, then all, and nothing again once it has taken
abbrev late_thread : Account
late_thread = account_at_look new_account newcomer (at 100) 0 false

pub late_for_nothing : price_at_look late_thread newcomer (record { 0 = 10999999999 }) false ≡ Free
late_for_nothing = refl

pub too_late_costs_all : price_at_look late_thread newcomer (at 110) false ≡ Full
too_late_costs_all = refl

pub has_taken : price_at_look late_thread newcomer (at 110) true ≡ Free
has_taken = refl

-- ---- the log's line

pub first_line : is_line_due None (at 0) ≡ true
first_line = refl

pub within_a_second : is_line_due (Some (at 100)) (record { 0 = 10999999999 }) ≡ false
within_a_second = refl

pub after_a_second : is_line_due (Some (at 100)) (at 110) ≡ true
after_a_second = refl
