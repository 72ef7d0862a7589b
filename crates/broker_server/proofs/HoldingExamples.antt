-- Worked examples of when memory is short, and who is refused more.
use Rattle.std.proofs.Common.{◌≡◌, true, false, refl}
use Rattle.broker_server.specs.Holding.{is_refused, is_short, is_told, time_to_take}

pub a_piece_more_is_told : is_told 100000 165536 ≡ true
a_piece_more_is_told = refl

pub a_little_more_isn't : is_told 100000 165535 ≡ false
a_little_more_isn't = refl

-- ---- 768 MiB, 256 of them committed; and 900 that aren't

pub it_is_short : is_short 536870912 268435456 ≡ true
it_is_short = refl

pub open_ones_alone_aren't : is_short 943718400 0 ≡ false
open_ones_alone_aren't = refl

-- ---- at 768, 832 and 896 MiB, and beyond

pub time_at_768 : time_to_take 805306368 ≡ 5294967296
time_at_768 = refl

pub time_at_832 : time_to_take 872415232 ≡ 3147483648
time_at_832 = refl

pub time_at_896 : time_to_take 939524096 ≡ 1000000000
time_at_896 = refl

pub time_beyond : time_to_take 2147483648 ≡ 1000000000
time_beyond = refl

-- ---- one that opens transactions alone, from 512 MiB on; a second one beside it, from 256

pub one_alone : is_refused 536870912 536870912 0 ≡ true
one_alone = refl

pub one_with_less : is_refused 536870911 536870911 0 ≡ false
one_with_less = refl

pub a_second : is_refused 805306368 268435456 0 ≡ true
a_second = refl

pub a_second_with_less : is_refused 805306367 268435455 0 ≡ false
a_second_with_less = refl

-- a transaction of 64 MiB where all hold 900 with it
pub one_of_64_at_900 : is_refused 943718400 67108864 0 ≡ false
one_of_64_at_900 = refl

-- who has committed 700 MiB, and opens 10
pub what_was_committed_is_no_share : is_refused 744488960 10485760 734003200 ≡ false
what_was_committed_is_no_share = refl

-- ---- beyond 1 GiB, 4 MiB, and an octet more; and beyond 2 GiB

pub a_little_is_granted : is_refused 1073741825 4194304 0 ≡ false
a_little_is_granted = refl

pub more_isn't : is_refused 1073741825 1 4194304 ≡ true
more_isn't = refl

pub at_2_gib : is_refused 2147483648 1 0 ≡ false
at_2_gib = refl

pub beyond_it : is_refused 2147483649 1 0 ≡ true
beyond_it = refl
