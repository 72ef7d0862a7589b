use Rattle.std.proofs.Common.{◌≡◌, ◌∙◌, ◌++◌, ◌∷◌, [], ℕ, List, false, length, ap, subst, sym}
use Rattle.std.specs.Arc.{arc_value}
use Rattle.std.specs.declared.alloc.Global.{Global}
use Rattle.std.specs.declared.sync.Arc.{Arc}
use Rattle.stomp_session.specs.Inner.Stored.{AreDistinct, FindsFirsts, fingerprint, names_of}
use Rattle.stomp_session.specs.Names.{is_known}
use Rattle.stomp_session.proofs.Firsts.{distinct_one_more, finds_one_more, names_of-push}
use Rattle.stomp_session.proofs.name_set.NameSet.add.Goals as goal

pub invariant_of-self-2 : goal.invariant_of-self-2
invariant_of-self-2 c =
    let items = c.self.inside.names.items in
    let name = arc_value c.args.name in
    let at : c.len-at.result ≡ length (names_of items) = c.len-at.ensures ∙ ap (λ (xs : List (List ℕ)). length xs) (sym c.self.view_is) in
    let mark : c.fingerprint.result ≡ fingerprint name = c.fingerprint.ensures ∙ ap fingerprint c.deref.ensures in
    let all : names_of c.push_reserved.new.self.items ≡ names_of items ++ name ∷ [] =
    ap names_of (c.push_reserved.ensures.items ∙ ap (λ (xs : List (Arc (List ℕ) Global)). xs ++ c.args.name ∷ []) c.reserve.ensures.items)
    ∙ names_of-push items c.args.name in
    let unknown : is_known name (names_of items) ≡ false = ap (λ (xs : List (List ℕ)). is_known name xs) c.self.view_is ∙ c.requires in (
      subst (FindsFirsts c.note_first.new.firsts.entries) (sym all) (finds_one_more c.self.inside.firsts.entries c.note_first.new.firsts.entries (names_of items) name c.self.invariant.0 (λ g. rw (← mark, ← at) (c.in_ok-note_first.ensures.ok g))),
      subst AreDistinct (sym all) (distinct_one_more (names_of items) name c.self.invariant.1 unknown),
    )
