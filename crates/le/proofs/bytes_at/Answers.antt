use mathlib.Core.Path.{ap, ◌∙◌}
use mathlib.Core.List.{List}
use Prim.Native.Nat.{ℕ}
use native.Mathlib.Nat.{add-zero}
use native.Mathlib.Omega.{arith}
use lib.ListN.{take}
use Rattle.le.specs.Le.{part}
use Rattle.le.proofs.Laws.{zeros, tail-is, part-beyond, part-here, part-drop}
use Rattle.le.proofs.bytes_at.Goals as goal

pub returns-in-Some-first_chunk : goal.returns-in-Some-first_chunk
returns-in-Some-first_chunk g c =
    let f = c.args.s.now in
    let at = c.args.at in
    let l = c.in-Some.ensures.lookup.0 in
    let k = c.in-Some-first_chunk.ensures.cases in
    k.same ∙ ap (take g.row.N) (tail-is f at l.2 l.0) ∙ part-here g.row.N f at (omega (arith, k.enough, l.3))

pub returns-in-None-first_chunk : goal.returns-in-None-first_chunk
returns-in-None-first_chunk g c =
    let f = c.args.s.now in
    let at = c.args.at in
    let l = c.in-Some.ensures.lookup.0 in
    c.padded.ensures ∙ ap (λ (t : List ℕ). part g.row.N t 0) (tail-is f at l.2 l.0) ∙ rw (part-drop g.row.N at f 0, add-zero at)

pub returns-in-None : goal.returns-in-None
returns-in-None g c =
    let l = c.in-None.ensures.lookup.0 in
    zeros g.row.N ∙ part-beyond g.row.N c.args.s.now c.args.at (omega (arith, l))
