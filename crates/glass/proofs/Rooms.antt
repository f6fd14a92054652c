-- What a screen has of its rooms. Assumes nothing.
--     samples, some-cells     how many there are
--     held-obeyed     a command on the first samples and the first cells: what is in the rooms then still has its past
--     held-some       the same where writing its event failed
use mathlib.Core.Path.{◌≡◌, sym, ap, ◌∙◌, subst}
use mathlib.Core.List.{List, ◌++◌}
use Prim.Native.Nat.{ℕ, ◌*◌, ◌≤◌}
use lib.IntN.{ℤ}
use lib.ListN.{length, take, drop}
use Rattle.keeping.specs.Range.{Area, area}
use Rattle.history.specs.Calls.{Lent, lent}
use Rattle.screen.specs.declared.Screen.{Screen}
use Rattle.screen.specs.declared.command.Act.{Act}
use Rattle.screen.specs.declared.command.Act.TheVariants.{One, Undo}
use Rattle.screen.specs.Screens.{Sound}
use Rattle.screen.proofs.Planes.{screen-part}
use Rattle.screen.proofs.Tails.{front-back}
use Rattle.past.specs.Commands.{undone, after_of, Past, cells, memory, HeldOn}
use Rattle.past.proofs.Pasts.{cells-part, past-undos, past_after}
use Rattle.glass.specs.Cuts.{ObeyedSome}

module _ (s : Screen) (list room levels : List ℤ) (steps index : List ℕ) (roomy : 81920 ≤ length room) (wide : 4096 ≤ length index) (z : Sound s) {n k : ℕ} (n-is : n ≡ s.stride * s.height) (k-is : k ≡ cells s) where
  abbrev a : Area
  a = area (s.stride * s.height) s.stride s.width s.height

  pub samples : length (take n room) ≡ s.stride * s.height
  samples = ap (λ j. length (take j room)) n-is ∙ screen-part room z.long z.high roomy

  pub some-cells : length (take k index) ≡ cells s
  some-cells = ap (λ j. length (take j index)) k-is ∙ cells-part s.width s.height index z.narrow z.high wide

  -- what was lent is the memory
  was : lent (take n room) steps levels (take k index) ≡ memory s room steps levels index
  was = (λ i. lent (take (n-is i) room) steps levels (take (k-is i) index))

  held-past : {p l' : List ℤ} {s' x : List ℕ} → length p ≡ length (take n room) → length x ≡ length (take k index) → Past a (lent p s' l' x)
      → HeldOn s (p ++ drop n room) s' l' (x ++ drop k index)
  held-past {p} {l'} {s'} {x} lp lx past =
      subst (λ (y : List ℤ). Past a (lent y s' l' (take (cells s) (x ++ drop k index))))
      (sym (ap (λ j. take (s.stride * s.height) (p ++ drop j room)) n-is ∙ front-back (s.stride * s.height) room p (lp ∙ samples)))
      (subst (λ (y : List ℕ). Past a (lent p s' l' y)) (sym (ap (λ j. take (cells s) (x ++ drop j index)) k-is ∙ front-back (cells s) index x (lx ∙ some-cells))) past)

  pub held-obeyed : (act : Act) (p l' : List ℤ) (s' x : List ℕ) → HeldOn s room steps levels index → length p ≡ length (take n room) → length x ≡ length (take k index)
      → lent p s' l' x ≡ after_of (area (length (take n room)) s.stride s.width s.height) act s.depth list (lent (take n room) steps levels (take k index))
      → HeldOn s (p ++ drop n room) s' l' (x ++ drop k index)
  held-obeyed act p l' s' x h lp lx e =
      let is : lent p s' l' x ≡ after_of a act s.depth list (memory s room steps levels index) =
      e ∙ ap (λ j. after_of (area j s.stride s.width s.height) act s.depth list (lent (take n room) steps levels (take k index))) samples ∙ ap (after_of a act s.depth list) was in
      held-past lp lx (subst (Past a) (sym is) (past_after a (memory s room steps levels index) h act s.depth list (ap (λ (m : Lent). length m.plane) (sym is) ∙ lp ∙ samples)))

  pub held-some : (act : Act) (p l' : List ℤ) (s' x : List ℕ) → HeldOn s room steps levels index → length p ≡ length (take n room) → length x ≡ length (take k index)
      → ObeyedSome (area (length (take n room)) s.stride s.width s.height) act s.depth list (lent (take n room) steps levels (take k index)) (lent p s' l' x)
      → HeldOn s (p ++ drop n room) s' l' (x ++ drop k index)
  held-some (One c) p l' s' x h lp lx some = held-obeyed (One c) p l' s' x h lp lx some
  held-some Undo p l' s' x h lp lx u =
      let is : lent p s' l' x ≡ undone a u.many (memory s room steps levels index) =
      u.left ∙ ap (λ j. undone (area j s.stride s.width s.height) u.many (lent (take n room) steps levels (take k index))) samples ∙ ap (undone a u.many) was in
      held-past lp lx (subst (Past a) (sym is) (past-undos a (memory s room steps levels index) h u.many))
