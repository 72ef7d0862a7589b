-- Views of cores.
use Rattle.std.proofs.Common.{◌≡◌}
use Rattle.delivery.proofs.Words.All.{View}

-- views with the same fields
pub same_view : (u v : View) → u.names ≡ v.names → u.capacity ≡ v.capacity → u.groups ≡ v.groups
    → u.senders ≡ v.senders → u.verdicts ≡ v.verdicts → u.endpoints ≡ v.endpoints → u.subs ≡ v.subs → u.commits ≡ v.commits → u ≡ v
same_view u v names capacity groups senders verdicts endpoints subs commits =
    λ i. record {
      names = names i;
      capacity = capacity i;
      groups = groups i;
      senders = senders i;
      verdicts = verdicts i;
      endpoints = endpoints i;
      subs = subs i;
      commits = commits i;
    }
