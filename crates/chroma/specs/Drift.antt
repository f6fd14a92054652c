-- A pair turned, and turned back with the sine negated. Definitions only; from document 02, section 11.
--     back_u_of, back_v lo hi s c u v    the pair u, v turned by s, c and the result turned by -s, c
--     back_of u v s c depth          two calls: the lists u, v turned by s, c and the result turned by -s, c
--     Unclamped lo hi s c u v       neither number of the pair u, v turned by s, c was clamped
--     NoneClamped lo hi s c u v     none of the four numbers was, there and back
--     drift s c z w                 65,536 times the returned number w, less (sin² + cos²) times the original z
--     drift_bound s c                128 · (|sin| + |cos| + 256)
use Rattle.std.specs.Prelude.{◌≡◌, List, ℕ, ◌+◌, ◌*◌, ℤ, pos, neg_ℤ, nat_abs, ◌+ℤ◌, ◌-ℤ◌, ◌*ℤ◌}
use Rattle.answers.specs.declared.Answer.{Answer}
use Rattle.chroma.specs.Chroma.{round256, turn_u, turn_v, cctx_of}

abbrev pub back_u_of : ℤ → ℤ → ℤ → ℤ → ℤ → ℤ → ℤ
back_u_of lo hi s c u v = turn_u lo hi (neg_ℤ s) c (turn_u lo hi s c u v) (turn_v lo hi s c u v)

abbrev pub back_v : ℤ → ℤ → ℤ → ℤ → ℤ → ℤ → ℤ
back_v lo hi s c u v = turn_v lo hi (neg_ℤ s) c (turn_u lo hi s c u v) (turn_v lo hi s c u v)

abbrev pub back_of : List ℤ → List ℤ → ℤ → ℤ → ℕ → Answer × (List ℤ × List ℤ)
back_of u v s c depth = cctx_of (cctx_of u v s c depth).1.0 (cctx_of u v s c depth).1.1 (neg_ℤ s) c depth

-- the clamped number is the rounded one
abbrev pub Unclamped : ℤ → ℤ → ℤ → ℤ → ℤ → ℤ → Type 0
Unclamped lo hi s c u v = (turn_u lo hi s c u v ≡ round256 (u *ℤ c -ℤ v *ℤ s)) × (turn_v lo hi s c u v ≡ round256 (u *ℤ s +ℤ v *ℤ c))

abbrev pub NoneClamped : ℤ → ℤ → ℤ → ℤ → ℤ → ℤ → Type 0
NoneClamped lo hi s c u v = Unclamped lo hi s c u v × Unclamped lo hi (neg_ℤ s) c (turn_u lo hi s c u v) (turn_v lo hi s c u v)

abbrev pub drift : ℤ → ℤ → ℤ → ℤ → ℤ
drift s c z w = w *ℤ pos 65536 -ℤ z *ℤ (s *ℤ s +ℤ c *ℤ c)

abbrev pub drift_bound : ℤ → ℤ → ℕ
drift_bound s c = 128 * (nat_abs s + nat_abs c + 256)
