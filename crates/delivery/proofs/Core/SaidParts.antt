-- What an account says of a part of the answers.
use Rattle.delivery.proofs.Words.All.{◌≡◌, true, false, List, [], ◌∷◌, ◌++◌, refl, ap, true≢false, false≢true, Answer}
use Rattle.delivery.proofs.Core.Said.{said, is_said}

-- of two lists what it says of each
pub said_append : (xs ys : List Answer) → said (xs ++ ys) ≡ said xs ++ said ys
said_append [] ys = refl
said_append (Answer.Refused why ∷ xs) ys = said_append xs ys
said_append (Answer.Done ∷ xs) ys = said_append xs ys
said_append (o ∷ xs) ys = ap (λ z. o ∷ z) (said_append xs ys)

-- what it says stays in it; what it doesn't say adds nothing
pub said_kept : (o : Answer) (past : List Answer) → is_said o ≡ true → said (o ∷ past) ≡ o ∷ said past
said_kept (Answer.Refused why) past e = absurd (false≢true e)
said_kept Answer.Done past e = absurd (false≢true e)
said_kept o past e = refl

pub unsaid_same : (o : Answer) (past : List Answer) → is_said o ≡ false → said (o ∷ past) ≡ said past
unsaid_same (Answer.Refused why) past e = refl
unsaid_same Answer.Done past e = refl
unsaid_same o past e = absurd (true≢false e)
