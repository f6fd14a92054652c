-- What the internal functions may rely on. Definitions only.
--     Writable               lengths and ends that the writing functions ask for
--     judged r               the answer that a judge's result stands for: Done with what it found besides, or a refusal
--     Undoable p t s l i     what the undo of entry i on the plane p, at the stride t, asks for
use Rattle.std.specs.Prelude.{◌≡◌, Result, Ok, Err, List, ℕ, ◌+◌, ◌*◌, ◌≤◌, ◌<◌, ℤ, length}
use Rattle.answers.specs.declared.Answer.{Answer}
use Rattle.answers.specs.declared.Reason.{Reason}
use Rattle.answers.specs.Answers.{done}
use Rattle.answers.specs.Reasons.{answer_of}
use Rattle.wht.specs.Calls.{Sixteen}
use Rattle.remain.specs.Remaining.{count, word, levels_at}
use Rattle.remain.specs.Touch.{across}

abbrev pub judged : {A : Type 0} → Result A Reason → Answer
judged (Ok x) = done
judged (Err r) = answer_of r

pub record Writable (width rows row column : ℕ) (s : List ℕ) (l : List ℤ) (x : List ℕ) : Type 0 where
  pub steps : length s ≡ 16385
  pub levels : length l ≡ 65536
  pub cells : length x ≡ across rows * across width
  pub most : count s ≤ 4096
  pub wide : width ≤ 65536
  pub high : rows ≤ 65536
  pub right : column + 4 ≤ width
  pub low : row + 4 ≤ rows

pub record Undoable (p : List ℤ) (t : ℕ) (s : List ℕ) (l : List ℤ) (i : ℕ) : Type 0 where
  pub steps : length s ≡ 16385
  pub levels : length l ≡ 65536
  pub place : i < 4096
  pub deep : word s i 1 ≤ 12
  pub wide : 4 ≤ t
  pub row : word s i 2 * t ≤ 65536 * 65536
  pub column : word s i 3 ≤ 65536
  pub reach : word s i 2 * t + word s i 3 + 3 * t + 4 ≤ length p
  pub sixteen : Sixteen 262144 (levels_at l i)
