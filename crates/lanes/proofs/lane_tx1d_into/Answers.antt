-- `lanes::lane_tx1d_into` meets its contract: what does not count is cleared, and in each arm the length is known. Assumes nothing.
use mathlib.Core.Path.{◌≡◌, sym, ◌∙◌, subst}
use mathlib.Core.Logic.{◌⊎◌}
use Prim.Native.Nat.{ℕ}
use native.Mathlib.Omega.{arith}
use Rattle.lanes.proofs.Picks.{cut-long, cut-rest}
use Rattle.lanes.proofs.Cleared.{ready, gives, head-ready, head-gives}
use Rattle.lanes.proofs.lane_tx1d_into.Goals as goal

pub head-requires : goal.head-requires
head-requires g c =
    let e = c.cut_of-m.ensures in (
      subst (λ (m : ℕ). (m ≡ 8) ⊎ ((m ≡ 16) ⊎ (m ≡ 32))) (sym e) (cut-long c.args.n c.args.code c.requires.code_value (omega (arith, e, c.if-m-gt4.true))),
      head-ready g.L.Lanes.lane c.args.n c.args.code c.args.live c.requires.code_value c.args.c.now c.rest.new.c c.requires.live e c.if-live-le4.true (omega (arith, e, c.if-m-gt4.true)) c.requires.room.0 (omega (arith, c.requires.room.0, c.rest.auto.c, c.cut_of-m.ensures, c.if-m-gt4.true)) c.rest.ensures,
      omega (arith, c.requires.room.1, e),
    )

pub returns-then-m-gt4 : goal.returns-then-m-gt4
returns-then-m-gt4 g c =
    let e = c.cut_of-m.ensures in
    head-gives g.L.Lanes.lane c.args.n c.args.code c.args.live c.requires.code_value c.args.c.now c.rest.new.c c.requires.live e c.if-live-le4.true (omega (arith, e, c.if-m-gt4.true)) c.requires.room.0 (omega (arith, c.requires.room.0, c.rest.auto.c, c.cut_of-m.ensures, c.if-m-gt4.true)) c.rest.ensures
    c.head.new.e c.if-code-eq0.true c.head.ensures

pub kernel4-requires : goal.kernel4-requires
kernel4-requires g c =
    let r = ready g.L.Lanes.lane c.args.n c.args.code c.args.live c.requires.code_value c.args.c.now c.rest-else-code-eq0.new.c c.requires.live c.cut_of-m.ensures (omega (arith, c.requires.room.0, c.cut_of-m.ensures, c.rest-else-code-eq0.auto.c)) c.rest-else-code-eq0.ensures c.in-4.is in
    (r.0, r.1, omega (arith, c.requires.room.1, c.cut_of-m.ensures, c.in-4.is))

pub returns-in-4 : goal.returns-in-4
returns-in-4 g c =
    gives g.L.Lanes.lane c.args.n c.args.code c.args.live c.requires.code_value c.args.c.now c.rest-else-code-eq0.new.c c.requires.live c.cut_of-m.ensures (omega (arith, c.requires.room.0, c.cut_of-m.ensures, c.rest-else-code-eq0.auto.c)) c.rest-else-code-eq0.ensures c.kernel4.new.e c.in-4.is c.kernel4.ensures

pub kernel8-requires : goal.kernel8-requires
kernel8-requires g c =
    let r = ready g.L.Lanes.lane c.args.n c.args.code c.args.live c.requires.code_value c.args.c.now c.rest-else-code-eq0.new.c c.requires.live c.cut_of-m.ensures (omega (arith, c.requires.room.0, c.cut_of-m.ensures, c.rest-else-code-eq0.auto.c)) c.rest-else-code-eq0.ensures c.in-8.is in
    (r.0, r.1, omega (arith, c.requires.room.1, c.cut_of-m.ensures, c.in-8.is))

pub returns-in-8 : goal.returns-in-8
returns-in-8 g c =
    gives g.L.Lanes.lane c.args.n c.args.code c.args.live c.requires.code_value c.args.c.now c.rest-else-code-eq0.new.c c.requires.live c.cut_of-m.ensures (omega (arith, c.requires.room.0, c.cut_of-m.ensures, c.rest-else-code-eq0.auto.c)) c.rest-else-code-eq0.ensures c.kernel8.new.e c.in-8.is c.kernel8.ensures

pub kernel16-requires : goal.kernel16-requires
kernel16-requires g c =
    let r = ready g.L.Lanes.lane c.args.n c.args.code c.args.live c.requires.code_value c.args.c.now c.rest-else-code-eq0.new.c c.requires.live c.cut_of-m.ensures (omega (arith, c.requires.room.0, c.cut_of-m.ensures, c.rest-else-code-eq0.auto.c)) c.rest-else-code-eq0.ensures c.in-16.is in
    (r.0, r.1, omega (arith, c.requires.room.1, c.cut_of-m.ensures, c.in-16.is))

pub returns-in-16 : goal.returns-in-16
returns-in-16 g c =
    gives g.L.Lanes.lane c.args.n c.args.code c.args.live c.requires.code_value c.args.c.now c.rest-else-code-eq0.new.c c.requires.live c.cut_of-m.ensures (omega (arith, c.requires.room.0, c.cut_of-m.ensures, c.rest-else-code-eq0.auto.c)) c.rest-else-code-eq0.ensures c.kernel16.new.e c.in-16.is c.kernel16.ensures

pub kernel32-requires : goal.kernel32-requires
kernel32-requires g c =
    let e = c.cut_of-m.ensures in
    let d : c.cut_of-m.result ≡ 32 = e ∙ cut-rest c.args.n c.args.code c.requires.code_value (λ q. absurd (omega (arith, q, e))) (λ q. absurd (omega (arith, q, e))) (λ q. absurd (omega (arith, q, e))) in
    let r = ready g.L.Lanes.lane c.args.n c.args.code c.args.live c.requires.code_value c.args.c.now c.rest-else-code-eq0.new.c c.requires.live e (omega (arith, c.requires.room.0, e, c.rest-else-code-eq0.auto.c)) c.rest-else-code-eq0.ensures d in
    (r.0, r.1, omega (arith, c.requires.room.1, e, d))

pub returns-in_default : goal.returns-in_default
returns-in_default g c =
    gives g.L.Lanes.lane c.args.n c.args.code c.args.live c.requires.code_value c.args.c.now c.rest-else-code-eq0.new.c c.requires.live c.cut_of-m.ensures (omega (arith, c.requires.room.0, c.cut_of-m.ensures, c.rest-else-code-eq0.auto.c)) c.rest-else-code-eq0.ensures c.kernel32.new.e (let e = c.cut_of-m.ensures in e ∙ cut-rest c.args.n c.args.code c.requires.code_value (λ q. absurd (omega (arith, q, e))) (λ q. absurd (omega (arith, q, e))) (λ q. absurd (omega (arith, q, e)))) c.kernel32.ensures
