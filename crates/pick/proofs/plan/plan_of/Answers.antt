-- What the walk has passed, with what is still to come, is what there is. Assumes nothing.
use Prim.Native.Nat.{ℕ, ◌+◌, ◌≤◌}
use native.Mathlib.Omega.{arith}
use mathlib.Core.Bool.{◌&&◌}
use mathlib.Core.Path.{◌≡◌, sym, ap, ap₂, ◌∙◌}
use lib.Dec.{leb}
use lib.ListN.{length}
use Rattle.std.specs.Prelude.{Option}
use Rattle.reading.specs.declared.Stretch.{Stretch}
use Rattle.le.specs.Le.{Bytes}
use Rattle.walk.specs.declared.due.Walk.{Walk}
use Rattle.walk.specs.Due.{is_end}
use Rattle.reading.specs.Reading.{bytes_of}
use Rattle.index.specs.Answer.{complete}
use Rattle.reading.proofs.Loops.{Further, further, no_more, stopped}
use Rattle.pick.specs.declared.keep.Kept.{Kept}
use Rattle.pick.specs.Keep.{kept_of}
use Rattle.pick.specs.Pick.{picked, plan_by}
use Rattle.pick.proofs.Planning.{complete-is, is-complete, Next, Whole, planned-none, planned-more, planned-all}
use Rattle.pick.proofs.Standing.{Stands, stands}
use Rattle.pick.proofs.Turns.{picked-long, picked-short}
use Rattle.pick.proofs.plan.plan_of.Goals as goal

pub loop-s-init : goal.loop-s-init
loop-s-init c = planned-none _ _ _ c.begin-w.ensures

-- ---- a further radial
ahead : (c : goal.After-struct_known-1) → Further c.args.file.now c.loop-s.w c.in-Whole.s c.in-Whole.n
ahead c = further _ _ _ _ (sym c.advance.ensures ∙ c.in-Whole.is)

next : (c : goal.After-struct_known-1) → let l = c.loop-s in let a = c.args in
    Next a.wanted a.file.now l.w c.in-Whole.s c.in-Whole.n l.radials l.size l.empty
next c = planned-more _ _ c.loop-s.invariant (ahead c)

-- what its moments come to
kept : (c : goal.After-struct_known-1) → let f = c.args.file.now in
    c.kept_of-kept.result ≡ kept_of c.args.wanted (bytes_of f c.in-Whole.s)
kept c = c.kept_of-kept.ensures ∙ ap (kept_of _) c.own.ensures

fits : (c : goal.After-struct_known-1) → c.loop-s.size + (64 + c.kept_of-kept.result.bytes) ≤ length c.args.file.now
fits c = let n = (next c).fits in let e = ap {B = ℕ} (λ (x : Kept). x.bytes) (kept c) in omega arith

pub overflow_add-size : goal.overflow_add-size
overflow_add-size c = let l = fits c in omega (arith, c.well_formed)

pub overflow_add-size-in-Whole : goal.overflow_add-size-in-Whole
overflow_add-size-in-Whole c = let l = fits c in omega (arith, c.well_formed)

pub overflow_add-radials : goal.overflow_add-radials
overflow_add-radials c =
    let n = (next c).few in
    omega (arith, c.well_formed)

pub loop-s-preserved : goal.loop-s-preserved
loop-s-preserved c =
    let k = kept c in
    rw (c.first_empty-empty.ensures, k) (next c).then

-- ---- no further one
all : (c : goal.After-first_radial) → let l = c.loop-s in let a = c.args in
    Whole a.wanted a.file.now c.in-Stopped.n l.radials l.size l.empty
all c =
    let e = sym c.advance.ensures ∙ c.in-Stopped.is in
    let f = c.args.file.now in
    let w = c.loop-s.w in
    planned-all _ _ c.loop-s.invariant (no_more f w _ e) (stopped f w _ e)

-- whether it is complete
told-so : (c : goal.After-first_radial) → c.is_complete.result ≡ complete c.args.file.now
told-so c =
    let f = c.args.file.now in
    c.is_complete.ensures ∙ ap (λ (v : Walk). is_end v.due && leb (length f) v.at) (all c).at-stop ∙ sym (complete-is f)

-- how long the volume is
stand : (c : goal.After-first_radial) → Stands c.args.file.now
stand c =
    let bs : Bytes c.args.file.now = record { byte = λ i. (c.shared_slice_known-1.given i).fits } in
    stands c.args.file.now bs (is-complete c.args.file.now (sym (told-so c) ∙ c.if-is_complete.true))

long : (c : goal.After-first_radial) → c.first_radial.result + c.loop-s.size ≡ length (picked c.args.wanted c.args.file.now)
long c =
    ap₂ (λ (m n : ℕ). m + n) c.first_radial.ensures (all c).long ∙ sym (picked-long c.args.wanted c.args.file.now (stand c))

pub overflow_add-first_radial : goal.overflow_add-first_radial
overflow_add-first_radial c =
    let l = long c in
    let p = picked-short c.args.wanted c.args.file.now (stand c) in
    omega (arith, c.well_formed)

all-2 : (c : goal.After-plan_by) → let l = c.loop-s in let a = c.args in
    Whole a.wanted a.file.now c.in-Stopped.n l.radials l.size l.empty
all-2 c =
    let e = sym c.advance.ensures ∙ c.in-Stopped.is in
    let f = c.args.file.now in
    let w = c.loop-s.w in
    planned-all _ _ c.loop-s.invariant (no_more f w _ e) (stopped f w _ e)

told-so-2 : (c : goal.After-plan_by) → c.is_complete.result ≡ complete c.args.file.now
told-so-2 c =
    let f = c.args.file.now in
    c.is_complete.ensures ∙ ap (λ (v : Walk). is_end v.due && leb (length f) v.at) (all-2 c).at-stop ∙ sym (complete-is f)

stand-2 : (c : goal.After-plan_by) → Stands c.args.file.now
stand-2 c =
    let bs : Bytes c.args.file.now = record { byte = λ i. (c.shared_slice_known-1.given i).fits } in
    stands c.args.file.now bs (is-complete c.args.file.now (sym (told-so-2 c) ∙ c.if-is_complete.true))

long-2 : (c : goal.After-plan_by) → c.first_radial.result + c.loop-s.size ≡ length (picked c.args.wanted c.args.file.now)
long-2 c =
    ap₂ (λ (m n : ℕ). m + n) c.first_radial.ensures (all-2 c).long ∙ sym (picked-long c.args.wanted c.args.file.now (stand-2 c))

pub returns-then-is_complete : goal.returns-then-is_complete
returns-then-is_complete c =
    let whole = all-2 c in
    let l = c.loop-s in
    c.plan_by.ensures
    ∙ ap (λ (x : Option Stretch). plan_by x l.radials (c.first_radial.result + l.size)) whole.first
    ∙ ap₂ (plan_by _) whole.all (long-2 c)
    ∙ rw (sym (told-so-2 c) ∙ c.if-is_complete.true)

all-3 : (c : goal.Else-is_complete) → let l = c.loop-s in let a = c.args in
    Whole a.wanted a.file.now c.in-Stopped.n l.radials l.size l.empty
all-3 c =
    let e = sym c.advance.ensures ∙ c.in-Stopped.is in
    let f = c.args.file.now in
    let w = c.loop-s.w in
    planned-all _ _ c.loop-s.invariant (no_more f w _ e) (stopped f w _ e)

told-so-3 : (c : goal.Else-is_complete) → c.is_complete.result ≡ complete c.args.file.now
told-so-3 c =
    let f = c.args.file.now in
    c.is_complete.ensures ∙ ap (λ (v : Walk). is_end v.due && leb (length f) v.at) (all-3 c).at-stop ∙ sym (complete-is f)

pub returns-in-Stopped : goal.returns-in-Stopped
returns-in-Stopped c = rw (sym (told-so-3 c) ∙ c.if-is_complete.false)

pub loop-s-smaller : goal.loop-s-smaller
loop-s-smaller c = (ahead c).less
