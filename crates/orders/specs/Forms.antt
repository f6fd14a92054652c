-- What numbers a command takes. Definitions only.
--     form_of n     the form by its number: 1 a screen's numbers, 2 a block's, 3 a change's, 4 a count, 5 a step's number, 6 a place, any other nothing
--     takes_of f n  whether a form takes n numbers: a screen three or four, a block four and more, a change eighteen, a count at most one
--     heads_of f n  how many of its n numbers, the first, may not be negative: the place of a change, of any other form at most four
--     Of G f r      r is what f makes of a form of which G holds
use Rattle.std.specs.Prelude.{◌≡◌, cond, ℕ, Bool, ◌||◌, eqb, leb}
use Rattle.orders.specs.declared.names.Form.{Form}
use Rattle.orders.specs.declared.names.Form.TheVariants.{Nothing, Screen, Block, Change, Count, Number, Place}

abbrev pub form_of : ℕ → Form
form_of n =
    cond (eqb n 1) Screen (cond (eqb n 2) Block (cond (eqb n 3) Change (cond (eqb n 4) Count (cond (eqb n 5) Number (cond (eqb n 6) Place Nothing)))))

abbrev pub takes_of : Form → ℕ → Bool
takes_of Nothing n = eqb n 0
takes_of Screen n = eqb n 3 || eqb n 4
takes_of Block n = leb 4 n
takes_of Change n = eqb n 18
takes_of Count n = leb n 1
takes_of Number n = eqb n 1
takes_of Place n = eqb n 2

abbrev pub heads_of : Form → ℕ → ℕ
heads_of Nothing n = cond (leb n 4) n 4
heads_of Screen n = cond (leb n 4) n 4
heads_of Block n = cond (leb n 4) n 4
heads_of Change n = 2
heads_of Count n = cond (leb n 4) n 4
heads_of Number n = cond (leb n 4) n 4
heads_of Place n = cond (leb n 4) n 4

pub record Of {A : Type 0} (G : Form → Type 0) (f : Form → A) (r : A) : Type 0 where
  pub form : Form
  pub given : G form
  pub is : r ≡ f form
