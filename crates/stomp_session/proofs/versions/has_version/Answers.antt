use Rattle.std.proofs.Common.{rules, tests}
use Rattle.std.specs.Str.{bytes_eq}
use Rattle.std.proofs.lemmas.Iterator.Search.{any_from_yields_List}
use Rattle.std.proofs.lemmas.Iterator.Splits.{YieldsList-from_slice_split}
use Rattle.stomp_session.specs.Versions.{trimmed_text}
use Rattle.stomp_session.proofs.versions.has_version.Goals as goal

pub returns : goal.returns
returns c = any_from_yields_List (λ item. bytes_eq (trimmed_text item) c.args.version.now) _ _ _ c.any.ensures.ran
    (YieldsList-from_slice_split _ _ c.args.text.now c.split.ensures.rest c.split.ensures.done c.split.ensures.closure (λ x b q k. search (rules, tests)))
    (λ x b q k. search (rules, tests))
