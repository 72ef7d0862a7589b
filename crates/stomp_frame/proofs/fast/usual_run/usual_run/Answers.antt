use Rattle.std.proofs.Common.{leb, cond, bit_or, refl}
use Rattle.std.proofs.lemmas.Simd.{zip2_splat, length-chunk}
use lib.Lanes.{chunk}
use Rattle.stomp_frame.proofs.Masks.{joined, splat_is, itself, run_within, run_usual}
use Rattle.stomp_frame.proofs.fast.usual_run.usual_run.Goals as goal

pub returns-clause-within : goal.returns-clause-within
returns-clause-within c =
    let v = chunk c.args.at 16 c.args.text.now in
    let long = length-chunk c.args.at 16 c.args.text.now c.requires in
    run_within c.args.text.now c.args.at _ _ c.requires c.type_inv.text c.first_set.ensures _
    (joined bit_or _ _ v (zip2_splat _ v 16 14 long) (joined (λ a b. cond (leb a b) 255 0) _ _ v (splat_is v 16 128 long) (itself v)))

pub returns-clause-usual : goal.returns-clause-usual
returns-clause-usual c =
    let v = chunk c.args.at 16 c.args.text.now in
    let long = length-chunk c.args.at 16 c.args.text.now c.requires in
    run_usual c.args.text.now c.args.at _ _ c.requires c.type_inv.text c.first_set.ensures _
    (joined bit_or _ _ v (zip2_splat _ v 16 14 long) (joined (λ a b. cond (leb a b) 255 0) _ _ v (splat_is v 16 128 long) (itself v))) refl
