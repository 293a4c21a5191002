-- The report says what mending changes, and all of it: a field that it does not name holds already what would be put. Assumes nothing.
use Prim.Native.Nat.{ℕ, ◌+◌, ◌-◌, ◌^◌, ◌≤◌, ◌<◌}
use native.Mathlib.Nat.{add-zero}
use native.Mathlib.Omega.{arith}
use borrow.Author.Tests.{eqb-true, eqb-false}
use mathlib.Core.Bool.{Bool, true, false, cond}
use mathlib.Core.List.{List, ◌++◌, append_assoc}
use mathlib.Core.Path.{◌≡◌, refl, sym, ap, ap₂, subst, ◌∙◌}
use lib.Dec.{eqb}
use lib.ListN.{length, take, drop, length-append, take-append-drop}
use lib.Seq.{length-take-le}
use Rattle.le.specs.Le.{le, bytes, part, patch, Bytes}
use Rattle.le.proofs.Laws.{length-bytes, le_bytes, bytes_le, length_part, le-own, part-past, part-drop, length-patch}
use Rattle.le.proofs.Here.{cut-here}
use Rattle.rules.proofs.Numbers.{closing-small}
use Rattle.radial.specs.Radial.{radial_at}
use Rattle.walk.specs.Due.{cut_place}
use Rattle.reading.specs.declared.Stretch.{Stretch}
use Rattle.volume.specs.InPlace.{task_block}
use Rattle.mend.specs.declared.report.Field.TheVariants.{Same, Changed}
use Rattle.mend.specs.Closed.{gap_of, FieldSays, same, differs, by_field, by_report, Reported}
use Rattle.mend.specs.Mend.{cut_number, last_state, changed, without, behind_cut, mended, field_of, report_of, Lies}
use Rattle.mend.proofs.Fields.{number_in, state-in}
use Rattle.mend.proofs.Pieces.{pieces, mended-is, regroup-state, state-at}

-- ---- a part put where it stands, one behind a patch, and a number behind some bytes

patch-own : (n : ℕ) (f : List ℕ) (at : ℕ) → at + n ≤ length f → patch f at (part n f at) ≡ f
unfolding patch
patch-own n f at h =
    ap (λ (k : ℕ). take at f ++ part n f at ++ drop (at + k) f) (length_part n f at)
    ∙ append_assoc (take at f) (part n f at) (drop (at + n) f)
    ∙ ap (λ (l : List ℕ). take at f ++ l) (sym (cut-here f at n h))
    ∙ take-append-drop at f

part-behind : (n : ℕ) (f : List ℕ) (at : ℕ) (x : List ℕ) (to : ℕ) → at + length x ≤ to → at ≤ length f → part n (patch f at x) to ≡ part n f to
unfolding patch
part-behind n f at x to h i =
    let m = at + length x in
    let l : length (take at f ++ x) ≡ m = let t = length-take-le at f i in length-append (take at f) x ∙ omega arith in
    let e : length (take at f ++ x) + (to - m) ≡ to = omega arith in
    let k : m + (to - m) ≡ to = omega arith in
    ap (part n (take at f ++ x ++ drop m f)) (sym e) ∙ part-past n (take at f ++ x) (drop m f) (to - m) ∙ part-drop n m f (to - m) ∙ ap (part n f) k

there : (a b : List ℕ) (k : ℕ) → k < 256 ^ 4 → le 4 (a ++ (bytes 4 k ++ b)) (length a) ≡ k
there a b k h =
    let l = a ++ (bytes 4 k ++ b) in
    sym (le-own 4 l (length a))
    ∙ ap (λ (i : ℕ). le 4 (part 4 l i) 0) (sym (add-zero (length a)))
    ∙ ap (λ (x : List ℕ). le 4 x 0) (part-past 4 a (bytes 4 k ++ b) 0)
    ∙ le-own 4 (bytes 4 k ++ b) 0
    ∙ le_bytes 4 k b h

-- ---- a field of the report

-- by what stands at its two places
says : (f g : List ℕ) (place written old new : ℕ) → le 4 f place ≡ old → le 4 g written ≡ new → FieldSays f g place written (field_of place written old new)
unfolding field_of
says f g place written old new eo en =
    subst (λ (x : ℕ). FieldSays f g place written (field_of place written x new)) eo
    (subst (λ (x : ℕ). FieldSays f g place written (field_of place written (le 4 f place) x)) en (go (eqb (le 4 f place) (le 4 g written)) refl))
  where
    go : (b : Bool) → eqb (le 4 f place) (le 4 g written) ≡ b
        → FieldSays f g place written (cond b Same (Changed (record { place = place; written = written; old = le 4 f place; new = le 4 g written })))
    go true t = same (eqb-true (le 4 f place) (le 4 g written) t)
    go false t = differs (eqb-false (le 4 f place) (le 4 g written) t)

-- and the change that it names: where it names none, what would be put stands there
by_field_lem : (f : List ℕ) (place written old new : ℕ) → place + 4 ≤ length f → bytes 4 old ≡ part 4 f place → by_field (field_of place written old new) f ≡ patch f place (bytes 4 new)
unfolding field_of
by_field_lem f place written old new h e = go (eqb old new) refl
  where
    go : (b : Bool) → eqb old new ≡ b → by_field (cond b Same (Changed (record { place = place; written = written; old = old; new = new }))) f ≡ patch f place (bytes 4 new)
    go true t = sym (patch-own 4 f place h) ∙ ap (patch f place) (sym e ∙ ap (bytes 4) (eqb-true old new t))
    go false t = refl

-- ---- the two fields, as they are written

module _ (f : List ℕ) (s : Stretch) (l : Lies f s) where
  number-written : le 4 (mended f s) 336 ≡ s.cut
  number-written =
      let p = pieces f s l in
      ap₂ (le 4) (mended-is f s p) (sym p.to_number) ∙ there p.a (p.b ++ (p.r ++ (bytes 4 (last_state f s) ++ p.d))) s.cut (omega arith)

  pub cuts-written : cut_number (mended f s) ≡ s.cut
  cuts-written = sym (number_in (mended f s)) ∙ number-written

  -- the dropped blocks, by the ends of the cuts' blocks
  gap_is : behind_cut (cut_number f) - behind_cut s.cut ≡ gap_of f s
  gap_is = omega arith

  pub state-written : le 4 (mended f s) (s.start - (behind_cut (cut_number f) - behind_cut s.cut)) ≡ last_state f s
  state-written =
      let p = pieces f s l in
      let small = closing-small (task_block f).scan_type s.cut s.cut in
      let number = bytes 4 s.cut in
      let state = bytes 4 (last_state f s) in
      ap₂ (le 4) (mended-is f s p ∙ regroup-state p.a number p.b p.r (state ++ p.d)) (sym (state-at f s p))
      ∙ there (p.a ++ (number ++ (p.b ++ p.r))) p.d (last_state f s) (omega arith)

-- ---- the report

module _ (f : List ℕ) (bs : Bytes f) (s : Stretch) (l : Lies f s) where
  -- the two changes that it names are both changes
  changes : by_field (report_of f s).state (by_field (report_of f s).cut_number f) ≡ changed f s
  unfolding changed
  changes =
      let number = bytes 4 s.cut in
      let n = length-bytes 4 s.cut in
      let numbered = patch f 336 number in
      let long = length-patch f 336 number (omega arith) in
      let old : bytes 4 (radial_at f s.start).state ≡ part 4 numbered s.start =
      ap (bytes 4) (sym (state-in f s.start)) ∙ bytes_le 4 f s.start bs ∙ sym (part-behind 4 f 336 number s.start (omega arith) (omega arith)) in
      ap (by_field (report_of f s).state) (by_field_lem f 336 336 (cut_number f) s.cut (omega arith) (ap (bytes 4) (sym (number_in f)) ∙ bytes_le 4 f 336 bs))
      ∙ by_field_lem numbered s.start (s.start - (behind_cut (cut_number f) - behind_cut s.cut)) (radial_at f s.start).state (last_state f s) (omega arith) old

  -- the dropped blocks stand from the first dropped cut's to the end of the last
  all_told : by_report (report_of f s) f ≡ mended f s
  unfolding mended
  all_told =
      let from : cut_place (s.cut + 1) ≡ behind_cut s.cut = omega arith in
      let to : cut_place (s.cut + 1 + (cut_number f - s.cut)) ≡ behind_cut (cut_number f) = omega arith in
      ap (λ (x : List ℕ). without (without x s.end (length f)) (cut_place (s.cut + 1)) (cut_place (s.cut + 1 + (cut_number f - s.cut)))) changes
      ∙ ap₂ (without (without (changed f s) s.end (length f))) from to

  pub reported : Reported f s (report_of f s)
  reported =
      let cuts = cuts-written f s l in
      record {
        all = all_told;
        cut-number = says f (mended f s) 336 336 (cut_number f) s.cut (number_in f) (number-written f s l);
        state =
            subst (λ (at : ℕ). FieldSays f (mended f s) s.start at (report_of f s).state) (ap (λ (k : ℕ). s.start - k) (gap_is f s l))
            (says f (mended f s) s.start (s.start - (behind_cut (cut_number f) - behind_cut s.cut)) (radial_at f s.start).state (last_state f s) (state-in f s.start) (state-written f s l));
        moved = omega arith;
        from_cut = omega arith;
        dropped = omega arith;
        from = refl;
        to = refl;
        within = l.end;
      }
