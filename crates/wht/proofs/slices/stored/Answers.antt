-- `wht::slices::stored` meets its contract: four stores of four numbers. Assumes nothing.
use mathlib.Core.Path.{ap, ◌∙◌}
use Rattle.wht.specs.Stores.{put4}
use Rattle.wht.proofs.Lists.{put16}
use Rattle.wht.proofs.slices.stored.Goals as goal

pub returns : goal.returns
returns c =
    let c4 = c.before in
    let c3 = c4.before.before.before in
    let c2 = c3.before.before.before in
    let c1 = c2.before.before.before in
    let s = c1.before.before.before.before.before.before in
    let m = s.args.m in
    c4.store4-4.ensures
    ∙ ap (λ x. put4 x 12 m.3) (c3.store4-3.ensures ∙ ap (λ x. put4 x 8 m.2) (c2.store4-2.ensures ∙ ap (λ x. put4 x 4 m.1) c1.store4.ensures))
    ∙ put16 s.args.out.now s.requires m
