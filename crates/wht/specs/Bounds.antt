-- Numbers of size at most B, four and sixteen of them. Definitions only.
use Rattle.std.specs.Prelude.{ℕ, ◌≤◌, nat_abs}
use Rattle.wht.specs.declared.blocks.Quad.{Quad}
use Rattle.wht.specs.declared.blocks.Block.{Block}

pub record Sized (B : ℕ) (o : Quad) : Type 0 where
  pub s0 : nat_abs o.0 ≤ B
  pub s1 : nat_abs o.1 ≤ B
  pub s2 : nat_abs o.2 ≤ B
  pub s3 : nat_abs o.3 ≤ B

pub record Sizes (B : ℕ) (m : Block) : Type 0 where
  pub r0 : Sized B m.0
  pub r1 : Sized B m.1
  pub r2 : Sized B m.2
  pub r3 : Sized B m.3
