-- Which radials are kept, by how many are of a cut, and that no complete volume is made of more: its last radial is not alone in its cut,
-- and every radial has the cut that its elevation number says. Assumes nothing.
use Prim.Native.Nat.{ℕ, suc, ◌+◌, ◌≤◌}
use native.Mathlib.Decide.{dec_le}
use native.Mathlib.Omega.{arith}
use mathlib.Core.List.{List, [], ◌∷◌, ◌++◌, append-nil}
use mathlib.Core.Logic.{◌↔◌, dite}
use mathlib.Core.Path.{◌≡◌, sym, ap, subst, ◌∙◌}
use lib.ListN.{length, length-append}
use Rattle.std.specs.Prelude.{Some, None}
use Rattle.le.specs.Le.{Bytes}
use Rattle.rules.proofs.Judged.{all_hold}
use Rattle.radial.specs.declared.Radial.{Radial}
use Rattle.radial.specs.Radial.{radial_at, radial_check, radial_rules}
use Rattle.radial.proofs.Header.{header}
use Rattle.reading.specs.declared.Stretch.{Stretch}
use Rattle.reading.specs.Reading.{nth, stretches}
use Rattle.reading.specs.Tiling.{AllWhole, WholeRadial}
use Rattle.reading.proofs.Radials.{all_whole}
use Rattle.volume.specs.Accepted.{volume_of}
use Rattle.volume.specs.InPlace.{of_cut}
use Rattle.volume.specs.Meaning.{Holds, volume_stretches}
use Rattle.hope.proofs.Meaning.{means}
use Rattle.ask.proofs.Growing.{nth-kept, nth_of}
use Rattle.mend.specs.Closed.{Which, all, but_last, NoTwo}
use Rattle.mend.specs.Kept.{kept, last_or, last_kept}
use Rattle.mend.specs.Made.{MadeOf}
use Rattle.mend.proofs.Behind.{begun-cut}
use Rattle.mend.proofs.Keeping.{last_cut, kept-first}
use Rattle.mend.proofs.Lying.{last-seen}
use Rattle.mend.proofs.Nth.{nth-within, nth_end, nth-among, some-last, last_of, of-join, of_one, of-most, of-nth}
use Rattle.mend.proofs.Seen.{Seen, seen, some, none, Tail, tail_of, volume-view}
use Rattle.mend.proofs.Seen as tail
use Rattle.mend.proofs.View.{stretch_behind, View}

-- ---- the last kept radial has another of its cut before it

module _ (f : List ℕ) (v : View f) where
  abbrev last : Stretch
  last = stretch_behind v.begun v.final

  abbrev before : List Stretch
  before = volume_stretches (volume_of v.begun)

  same-cut : last_cut 0 before ≡ last.cut
  same-cut = begun-cut v.begun v.last.two

  some-before : 1 ≤ length before
  some-before = let c = same-cut in some-last before (omega arith)

  two-kept : 2 ≤ of_cut last.cut (kept f)
  two-kept =
      let l = last_of 0 before some-before in
      let n = of-nth before (length before) l.radial l.is in
      let m = subst (λ (k : ℕ). 1 ≤ of_cut k before) (l.cut ∙ same-cut) n in
      let j = ap (of_cut last.cut) v.kept ∙ of-join last.cut before (last ∷ []) in
      let o = of_one last in
      omega arith

-- ---- which are kept

pub which : (f : List ℕ) → Bytes f → Which f
unfolding last_or
which f bs = by (seen f bs)
  where
    alone : (s : Stretch) → stretches f ≡ kept f ++ (s ∷ []) → of_cut s.cut (kept f) ≡ 0 → Which f
    alone s e z = but_last s e (let o = of_one s in ap (of_cut s.cut) e ∙ of-join s.cut (kept f) (s ∷ []) ∙ omega arith)

    by : Seen f → Which f
    by (some v (tail.all e)) =
        all (sym e) (λ s q. let l = ap (last_or None) (sym e) ∙ q in let k = last-seen f v in let z : stretch_behind v.begun v.final ≡ s = cc in
        subst (λ (x : Stretch). 2 ≤ of_cut x.cut (stretches f)) z (subst (λ (ss : List Stretch). 2 ≤ of_cut (suc (length v.begun.closed)) ss) (sym e) (two-kept f v)))
    by (some v (tail.one s e z)) = alone s e z
    by (none k (tail.all e)) = all (sym e) (λ s q. let l = ap (last_or None) (e ∙ k) in absurd (let z : ◌≡◌ {A = ℕ} 0 1 = cc in omega arith))
    by (none k (tail.one s e z)) = alone s e z

-- number 54
pub nothing : (f : List ℕ) → Bytes f → (last_kept f ≡ None) ↔ NoTwo f
unfolding last_or
nothing f bs = (there (seen f bs), back (seen f bs))
  where
    there : Seen f → last_kept f ≡ None → NoTwo f
    there (some v t) e = let h = last-seen f v in absurd (let z : ◌≡◌ {A = ℕ} 0 1 = cc in omega arith)
    there (none k (tail.all e)) q = λ c. let h = ap (of_cut c) (e ∙ k) in omega arith
    there (none k (tail.one s e z)) q = λ c. let h = ap (of_cut c) (e ∙ ap (λ (l : List Stretch). l ++ (s ∷ [])) k) in let m = of-most c s in omega arith

    back : Seen f → NoTwo f → last_kept f ≡ None
    back (some v t) few =
        let first = kept-first 0 (stretches f) in
        let c = suc (length v.begun.closed) in
        let n = few c in
        let m = two-kept f v in
        let j = ap (of_cut c) first.1 ∙ of-join c (kept f) first.0 in
        absurd (omega arith)
    back (none k t) few = ap (last_or None) k

-- ---- the cut of a radial

cut-is : (f : List ℕ) (n : ℕ) (s : Stretch) → nth (stretches f) n ≡ Some s → (radial_at f s.start).elevation_number ≡ s.cut
unfolding radial_check
cut-is f n s e =
    let w = nth_of (AllWhole f) (WholeRadial f) (λ s l h. h) (stretches f) n s (all_whole f) e in
    (header (radial_at f s.start) w.against (all_hold (radial_rules (radial_at f s.start) w.against) w.header)).elevation ∙ sym w.cut

-- ---- nothing longer is made

module _ (f g : List ℕ) (m : MadeOf f g) where
  -- radial n of g is of the cut of radial n of f
  record Both (n : ℕ) : Type 0 where
    old : Stretch
    new : Stretch
    given : nth (stretches f) n ≡ Some old
    made : nth (stretches g) n ≡ Some new
    cut : old.cut ≡ new.cut

  both : (n : ℕ) → 1 ≤ n → n ≤ length (stretches g) → Both n
  both n one most =
      let r = m.radials n one most in
      let h = ap (λ (x : Radial). x.elevation_number) r.header in
      record { old = r.old; new = r.new; given = r.given; made = r.made; cut = sym (cut-is f n r.old r.given) ∙ sym h ∙ cut-is g n r.new r.made }

  -- g by its own structure: its last radial, and those before it
  abbrev holds : Holds g
  holds = means.holds g m.bytes m.complete

  view-g : View g × (stretches g ≡ kept g)
  view-g =
      let v = holds.volume in
      let x = volume-view g v [] holds.is (append-nil _ ∙ holds.bytes) (ap stretches (sym holds.bytes) ∙ (means.reads v holds.is).radials) in
      (x.0.view, x.1)

  pub two_made : 2 ≤ length (stretches g)
  two_made =
      let v = view-g.0 in
      let n = some-before g v in
      let l = ap length (view-g.1 ∙ v.kept) ∙ length-append (before g v) (last g v ∷ []) in
      omega arith

  -- f's last radial is alone in its cut, and g had all of them: then g's last would be too
  never : (s : Stretch) → stretches f ≡ kept f ++ (s ∷ []) → of_cut s.cut (kept f) ≡ 0 → length (stretches g) ≡ suc (length (kept f)) → ⊥
  never s e z n =
      let v = view-g.0 in
      let split : stretches g ≡ before g v ++ (last g v ∷ []) = view-g.1 ∙ v.kept in
      let two = two_made in
      let l = ap length split ∙ length-append (before g v) (last g v ∷ []) in
      let k : length (before g v) ≡ length (kept f) = omega arith in
      let b = last_of 0 (before g v) (some-before g v) in
      let x = both (suc (length (kept f))) (omega arith) (omega arith) in
      let y = both (length (kept f)) (omega arith) (omega arith) in
      -- the last of f and of g
      let at-end : nth (stretches f) (suc (length (kept f))) ≡ Some s = ap (λ (r : List Stretch). nth r (suc (length (kept f)))) e ∙ nth_end (kept f) s in
      let old-is : x.old ≡ s = let p = x.given in cc in
      let g_end : nth (stretches g) (suc (length (kept f))) ≡ Some (last g v) = ap (λ (r : List Stretch). nth r (suc (length (kept f)))) split ∙ ap (λ (i : ℕ). nth (before g v ++ (last g v ∷ [])) (suc i)) (sym k) ∙ nth_end (before g v) (last g v) in
      let new_is : x.new ≡ last g v = let p = x.made in cc in
      -- the ones before them
      let g-before : nth (stretches g) (length (kept f)) ≡ Some b.radial = ap (λ (r : List Stretch). nth r (length (kept f))) split ∙ ap (λ (i : ℕ). nth (before g v ++ (last g v ∷ [])) i) (sym k) ∙ nth-kept (before g v) (last g v ∷ []) (length (before g v)) b.radial b.is in
      let new-before : y.new ≡ b.radial = let p = y.made in cc in
      let f-before : nth (kept f) (length (kept f)) ≡ Some y.old = sym (nth-among (kept f) (s ∷ []) (length (kept f)) (omega arith)) ∙ ap (λ (r : List Stretch). nth r (length (kept f))) (sym e) ∙ y.given in
      let cut : y.old.cut ≡ s.cut =
      y.cut ∙ ap (λ (r : Stretch). r.cut) new-before ∙ b.cut ∙ same-cut g v ∙ ap (λ (r : Stretch). r.cut) (sym new_is) ∙ sym x.cut ∙ ap (λ (r : Stretch). r.cut) old-is in
      let h = subst (λ (c : ℕ). 1 ≤ of_cut c (kept f)) cut (of-nth (kept f) (length (kept f)) y.old f-before) in
      omega arith

  within : length (stretches g) ≤ length (stretches f)
  within = let two = two_made in let x = both (length (stretches g)) (omega arith) (omega arith) in nth-within (stretches f) (length (stretches g)) x.old x.given

  by-tail : Tail f → length (stretches g) ≤ length (kept f)
  by-tail (tail.all e) = let l = ap length e in let h = within in omega arith
  by-tail (tail.one s e z) =
      let l = ap length e ∙ length-append (kept f) (s ∷ []) in
      let h = within in
      dite (dec_le (length (stretches g)) (length (kept f))) (λ k. k) (λ k. absurd (never s e z (omega arith)))

pub longest : (f : List ℕ) → Bytes f → (g : List ℕ) → MadeOf f g → length (stretches g) ≤ length (kept f)
longest f bs g m = by-tail f g m (tail_of f bs)
