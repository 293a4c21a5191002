use native.Mathlib.Omega.{arith}
use mathlib.Core.Path.{sym, ap, ◌∙◌}
use Rattle.le.specs.Le.{Bytes}
use Rattle.radial.specs.declared.Radial.{Radial}
use Rattle.engine.proofs.Led.{LedTo, led, led-nowhere}
use Rattle.engine.proofs.find.Goals as goal

file-bytes : (c : goal.In-Some) → Bytes c.args.file.now
file-bytes c = record { byte = λ i. (c.shared_slice_known-1.given i).fits }

-- where the index leads
here : (c : goal.In-Some) → let a = c.args in
    LedTo a.file.now a.index.now (file-bytes c) c.requires a.sequence c.in-Some.start
here c = led _ _ _ _ _ _ (sym c.find.ensures ∙ c.in-Some.is)

pub overflow_add-data : goal.overflow_add-data
overflow_add-data c = omega (arith, (here c).within, c.well_formed)

pub slice_bounds-read-end : goal.slice_bounds-read-end
slice_bounds-read-end c = omega (arith, (here c).within)

file-bytes-2 : (c : goal.After-struct_known-1) → Bytes c.args.file.now
file-bytes-2 c = record { byte = λ i. (c.shared_slice_known-1.given i).fits }

here-2 : (c : goal.After-struct_known-1) → let a = c.args in
    LedTo a.file.now a.index.now (file-bytes-2 c) c.requires a.sequence c.in-Some.start
here-2 c = led _ _ _ _ _ _ (sym c.find.ensures ∙ c.in-Some.is)

pub overflow_add-result : goal.overflow_add-result
overflow_add-result c =
    let h = here-2 c in
    let n = ap (λ (r : Radial). r.length_of_data) (c.read-header.ensures ∙ h.header) in
    omega (arith, n, h.within, c.well_formed)

pub returns-in-Some : goal.returns-in-Some
returns-in-Some c = let h = here-2 c in rw (c.read-header.ensures, h.header) (sym h.is)

file-bytes-3 : (c : goal.In-None) → Bytes c.args.file.now
file-bytes-3 c = record { byte = λ i. (c.shared_slice_known-1.given i).fits }

pub returns-in-None : goal.returns-in-None
returns-in-None c = sym (led-nowhere _ _ (file-bytes-3 c) c.requires _ (sym c.find.ensures ∙ c.in-None.is))
