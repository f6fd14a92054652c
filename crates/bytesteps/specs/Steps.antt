-- The lossless step and its undo on a plane of bytes, from document 02, section 4. Definitions only.
--     on_bytes                 a call of the wide plane, on bytes: every depth but 8 is refusal 1; at depth 8 it is the wide call over the same numbers,
--                             read back as bytes. Its refusal 8 never comes from a plane of bytes (`step-eight-never`, `undo-eight-never`)
--     step_bytes, undo_bytes    the step and the undo so
--     call_bytes               for statements: a step, or an undo
use Rattle.std.specs.Prelude.{cond, List, map, ℕ, eqb, ℤ, pos, nat_abs}
use Rattle.answers.specs.declared.Answer.{Answer}
use Rattle.answers.specs.Answers.{refused, unless}
use Rattle.lossless.specs.Step.{Step, step_of, undo_of}
use Rattle.lossless.specs.Pad.{Call}

-- an answer and a plane of numbers, the plane read back as bytes
abbrev pub read_back : Answer × List ℤ → Answer × List ℕ
read_back x = (x.0, map nat_abs x.1)

abbrev pub on_bytes : (List ℤ → Step → Answer × List ℤ) → List ℕ → Step → Answer × List ℕ
on_bytes call b s = unless (eqb s.at.depth 8) (refused 1 0 0, b) (read_back (call (map pos b) s))

abbrev pub step_bytes : List ℕ → Step → Answer × List ℕ
step_bytes = on_bytes step_of

abbrev pub undo_bytes : List ℕ → Step → Answer × List ℕ
undo_bytes = on_bytes undo_of

abbrev pub call_bytes : List ℕ → Call → Answer × List ℕ
call_bytes b c = cond c.undo (undo_bytes b c.step) (step_bytes b c.step)
