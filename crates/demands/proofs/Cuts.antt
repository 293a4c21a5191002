-- Up to 256 cuts, by citing the rules, the grammar of volumes and the index. Assumes nothing.
use Prim.Native.Nat.{ℕ, ◌+◌, ◌<◌, ◌≤◌}
use native.Mathlib.Omega.{arith}
use mathlib.Core.List.{List, [], ◌∷◌, map}
use mathlib.Core.Logic.{dite}
use mathlib.Core.Path.{◌≡◌, refl, sym, ap, ap₂, ◌∙◌}
use native.Mathlib.Decide.{dec_lt}
use borrow.Author.Tests.{lt-ltb, le-ltb, ne_eqb}
use lib.Dec.{lit<, ltb}
use lib.ListN.{length}
use Rattle.le.specs.Le.{int}
use Rattle.le.proofs.Tests.{fails}
use Rattle.rules.specs.Ranges.{is, counts, most_sequence}
use Rattle.rules.proofs.Allowed.{count-allowed}
use Rattle.rules.proofs.Numbers.{counts-within}
use Rattle.reading.specs.declared.Stretch.{Stretch}
use Rattle.reading.specs.Reading.{told, stop, stretches}
use Rattle.volume.specs.Accepted.{Begun, BegunOk, due_radial}
use Rattle.volume.specs.Meaning.{volume_stretches}
use Rattle.volume.specs.Volume.{Volume, IsVolume, bytes_of_volume}
use Rattle.volume.proofs.Sense.{sense}
use Rattle.index.specs.Answer.{right_for}
use Rattle.index.specs.Forms.{old_cuts, is_new, said_by, contents_for, contents_of}
use Rattle.index.specs.Index.{index_of, old_index_of, new_index_of}
use Rattle.index.proofs.Contents.{counts_of}
use Rattle.index.proofs.Forms.{first-old, first-new, few-cuts, many-cuts, other-form}
use Rattle.index.proofs.Says.{Of, of-volume, of-file, fits, says}
use Rattle.index.proofs.Same.{right-only, right-when}
use Rattle.demands.specs.Cuts.{Whole, cuts_of, Forms, contents_of_volume, Cuts}

-- ---- the index of a complete file

module _ (f : List ℕ) {v : Volume} (o : Of v f) where
  few : cuts_of f ≤ 50 → index_of f ≡ old_index_of f
  few h = few-cuts (stop f).plan.cuts (stretches f) (rw o.cuts h)

  many : 50 < cuts_of f → index_of f ≡ new_index_of f
  many h = many-cuts (stop f).plan.cuts (stretches f) (rw o.cuts h)

  old-first : cuts_of f ≤ 50 → old_cuts (old_index_of f) ≡ cuts_of f
  old-first h = let e = o.cuts in first-old (stop f).plan.cuts (stretches f) (omega arith) ∙ e

  by_first : is_new (index_of f) ≡ ltb 50 (cuts_of f)
  by_first =
      let some = (fits f o).some in
      dite (dec_lt 50 (cuts_of f))
      (λ h. rw (ap old_cuts (many h) ∙ first-new (stop f).plan.cuts (stretches f), lt-ltb 50 (cuts_of f) h))
      (λ h. rw (ap old_cuts (few (omega arith)) ∙ old-first (omega arith), ne_eqb (cuts_of f) 0 (λ z. omega arith), le-ltb 50 (cuts_of f) (omega arith)))

  forms : told f ≡ 0 ∷ [] → Forms f
  forms e =
      record {
        old = λ h. (few h, ap old_cuts (few h) ∙ old-first h);
        new = λ h. (many h, ap old_cuts (many h) ∙ first-new (stop f).plan.cuts (stretches f));
        by_first = by_first;
        stored = λ h. right-when f (old_index_of f) e (few h);
        new-wrong = λ h. fails (right_for f (new_index_of f)) (λ r. other-form (stop f).plan.cuts (stretches f) (sym (few h) ∙ (right-only f (new_index_of f) r).1));
        old-wrong = λ h. fails (right_for f (old_index_of f)) (λ r. other-form (stop f).plan.cuts (stretches f) (sym (right-only f (old_index_of f) r).1 ∙ many h));
        fits = fits f o;
        says = says f o;
      }

own : (f : List ℕ) (w : Whole f) → Of (of-file f w.bytes w.complete).0 f
own f w = (of-file f w.bytes w.complete).1

contents : (v : Volume) → IsVolume v → contents_of (bytes_of_volume v) ≡ contents_of_volume v
contents v ok =
    let o = of-volume v ok in
    ap₂ contents_for (o.cuts ∙ o.layers) o.radials
    ∙ ap (λ (ns : List ℕ). record { cuts = length v.layers; counts = ns; places = map (λ (s : Stretch). s.start) (volume_stretches v) }) (counts_of v)

apart : (f g : List ℕ) → Whole f → Whole g → cuts_of f ≤ 50 → old_index_of f ≡ new_index_of g → ⊥
apart f g w u h e =
    let o = own f w in
    let none : cuts_of f ≡ 0 = sym (old-first f o h) ∙ ap old_cuts e ∙ first-new (stop g).plan.cuts (stretches g) in
    let some = (fits f o).some in
    omega arith

as_before : (b : Begun) → BegunOk b → b.task.cut_number ≤ 65 → (n : ℕ) → counts most_sequence (due_radial b).before n ≡ is ((due_radial b).before + 1) (int n)
as_before b ok h n = let k = sense.before b ok in counts-within most_sequence (due_radial b).before n (omega arith)

pub many-cuts-hold : Cuts
many-cuts-hold =
    record {
      sequence = λ before n. count-allowed most_sequence before n (lit< tt);
      twelve = λ r d. refl;
      as_before = as_before;
      forms = λ f w. forms f (own f w) w.complete;
      volumes = contents;
      apart = apart;
      differ = λ f g w u e. sym (says f (own f w)) ∙ ap said_by e ∙ says g (own g u);
    }
