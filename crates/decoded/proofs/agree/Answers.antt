-- The loop's invariant: the gates before i agree. Assumes nothing.
use mir.Syntax.{w32}
use mathlib.Core.Bool.{◌&&◌}
use mathlib.Core.Path.{◌≡◌, sym, ap₂, ◌∙◌}
use Prim.Native.Nat.{ℕ}
use native.Mathlib.Omega.{arith}
use borrow.Author.Count.{below_none, below_more}
use borrow.Author.Rules.{sfits_of}
use lib.Dec.{eqb}
use lib.IntN.{ℤ}
use lib.ListN.{get_or}
use mir.Facts.{to_z-of_z}
use Rattle.gates.specs.Codes.{codes_of}
use Rattle.gates.specs.Gates.{kind_of}
use Rattle.gates.specs.Rows.{shown_of}
use Rattle.decoded.specs.Decoded.{eqℤ}
use Rattle.decoded.proofs.Agreed.{shows, shows-yes, shows-no, first}
use Rattle.decoded.proofs.agree.Goals as goal

pub loop-i-init : goal.loop-i-init
loop-i-init c = below_none _

-- what is said of gate i is what a row shows
said : (c : goal.Then-not-shows)
    → let a = c.args in
    c.shows.result ≡ shows a.c (codes_of a.bin a.bytes.now) a.kinds.now a.hundredths.now c.loop-i.i
said c =
    let a = c.args in
    c.shows.ensures
    ∙ ap₂ (λ (code : ℕ) (h : ℤ). eqb (kind_of a.c code) (get_or a.kinds.now c.loop-i.i 0) && eqℤ (shown_of a.c code) h)
    c.code_at.ensures (to_z-of_z {w = w32} (sfits_of c.shows-arg-1.given))

pub returns-then-not-shows : goal.returns-then-not-shows
returns-then-not-shows c =
    let a = c.args in
    let codes = codes_of a.bin a.bytes.now in
    first a.c codes a.kinds.now a.hundredths.now c.loop-i.i c.loop-i.invariant
    (shows-no a.c codes a.kinds.now a.hundredths.now c.loop-i.i (sym (said c) ∙ c.if-not-shows.true))

said-2 : (c : goal.Else-not-shows)
    → let a = c.args in
    c.shows.result ≡ shows a.c (codes_of a.bin a.bytes.now) a.kinds.now a.hundredths.now c.loop-i.i
said-2 c =
    let a = c.args in
    c.shows.ensures
    ∙ ap₂ (λ (code : ℕ) (h : ℤ). eqb (kind_of a.c code) (get_or a.kinds.now c.loop-i.i 0) && eqℤ (shown_of a.c code) h)
    c.code_at.ensures (to_z-of_z {w = w32} (sfits_of c.shows-arg-1.given))

pub loop-i-preserved : goal.loop-i-preserved
loop-i-preserved c =
    let a = c.args in
    let codes = codes_of a.bin a.bytes.now in
    below_more _ _ c.loop-i.invariant
    (shows-yes a.c codes a.kinds.now a.hundredths.now c.loop-i.i (omega arith) (omega arith) (omega arith) (sym (said-2 c) ∙ c.if-not-shows.false))

pub returns : goal.returns
returns c =
    let a = c.args in
    let all : c.loop-i.i ≡ c.min-n.result = omega arith in
    first a.c (codes_of a.bin a.bytes.now) a.kinds.now a.hundredths.now _ (rw all at c.loop-i.invariant)
    (λ p. let r = p.row in let k = p.kinds in let h = p.hundredths in omega arith)
