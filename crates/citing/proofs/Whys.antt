-- What is cited, by the four ways in which a step can go, as the tests decide it. Assumes nothing.
use Prim.Native.Nat.{ℕ, zero, suc, ◌+◌, ◌-◌, ◌<◌, ◌≤◌}
use native.Mathlib.Omega.{arith}
use mathlib.Core.Path.{◌≡◌, refl, ap}
use mathlib.Core.Bool.{true, false}
use mathlib.Core.List.{List, [], ◌∷◌}
use mathlib.Core.Logic.{◌⊎◌, inl, inr}
use lib.ListN.{length}
use borrow.Author.Tests.{le-leb, lt-leb, lt-ltb, le-ltb}
use Rattle.std.specs.Prelude.{Err, Some}
use Rattle.rules.specs.declared.check.Clause.{Clause}
use Rattle.rules.specs.Check.{Rule, First, here, behind, verdict}
use Rattle.rules.proofs.Judged.{decided-first, all_hold}
use Rattle.radial.specs.Radial.{radial_at, radial_check, radial_rules}
use Rattle.radial.proofs.Header.{header}
use Rattle.walk.specs.declared.due.Due.{Due}
use Rattle.walk.specs.declared.due.Due.TheVariants as due
use Rattle.walk.specs.declared.due.Walk.{Walk}
use Rattle.walk.specs.Due.{is_end, size_of}
use Rattle.reading.specs.declared.Stretch.{Stretch}
use Rattle.reading.specs.Exactly.{rules_of}
use Rattle.reading.specs.Reading.{stop, stretches, nth}
use Rattle.reading.specs.Tiling.{WholeRadial, AllWhole}
use Rattle.reading.proofs.Counts.{counted-all}
use Rattle.reading.proofs.Radials.{all_whole}
use Rattle.reading.proofs.Sequences.{nth-sequence}
use Rattle.ask.proofs.Growing.{nth_of}
use Rattle.citing.specs.declared.refusals.Why.TheVariants as why
use Rattle.citing.specs.Refusals.{block_due, trailing_clause, cited_of, by_rules, why_at}

-- ---- the four ways

module _ (f : List ℕ) (w : Walk) where
  pub why-over : is_end w.due ≡ true → w.at < length f → why_at f w ≡ why.Broken (cited_of f w.at (block_due w.due f w) trailing_clause)
  unfolding why_at
  why-over i h = rw (i, lt-ltb w.at (length f) h)

  pub why-done : is_end w.due ≡ true → length f ≤ w.at → why_at f w ≡ why.Complete
  unfolding why_at
  why-done i h = rw (i, le-ltb w.at (length f) h)

  pub why-short : is_end w.due ≡ false → length f < w.at + size_of w → why_at f w ≡ why.Open (w.at + size_of w - length f)
  unfolding why_at
  why-short i h = rw (i, lt-leb (w.at + size_of w) (length f) h)

  pub why-here : is_end w.due ≡ false → w.at + size_of w ≤ length f → why_at f w ≡ by_rules f w (verdict (rules_of w.due f w))
  unfolding why_at
  why-here i h = rw (i, le-leb (w.at + size_of w) (length f) h)

-- the volume is over where nothing is due
pub over-is : (d : Due) → is_end d ≡ true → d ≡ due.Nothing
unfolding is_end
over-is due.Generic e = absurd (let z : ◌≡◌ {A = ℕ} 0 1 = cc in omega arith)
over-is due.Site e = absurd (let z : ◌≡◌ {A = ℕ} 0 1 = cc in omega arith)
over-is due.Task e = absurd (let z : ◌≡◌ {A = ℕ} 0 1 = cc in omega arith)
over-is due.Cut e = absurd (let z : ◌≡◌ {A = ℕ} 0 1 = cc in omega arith)
over-is due.Radial e = absurd (let z : ◌≡◌ {A = ℕ} 0 1 = cc in omega arith)
over-is due.Moment e = absurd (let z : ◌≡◌ {A = ℕ} 0 1 = cc in omega arith)
over-is due.Data e = absurd (let z : ◌≡◌ {A = ℕ} 0 1 = cc in omega arith)
over-is due.Nothing e = refl

-- and then the radial that closed it is cited
pub closing-place : (f : List ℕ) (w : Walk) → is_end w.due ≡ true → (block_due w.due f w).place ≡ w.present.start
unfolding block_due
closing-place f w e = ap (λ (d : Due). (block_due d f w).place) (over-is w.due e)

-- before that the block that is due stands where the walk does
place-due : (d : Due) (f : List ℕ) (w : Walk) → is_end d ≡ false → (block_due d f w).place ≡ w.at
unfolding block_due is_end
place-due due.Generic f w e = refl
place-due due.Site f w e = refl
place-due due.Task f w e = refl
place-due due.Cut f w e = refl
place-due due.Radial f w e = refl
place-due due.Moment f w e = refl
place-due due.Data f w e = refl
place-due due.Nothing f w e = absurd (let z : ◌≡◌ {A = ℕ} 0 1 = cc in omega arith)

pub due-place : (f : List ℕ) (w : Walk) → is_end w.due ≡ false → (block_due w.due f w).place ≡ w.at
due-place f w e = place-due w.due f w e

-- ---- a rule's field has two bytes or four

abbrev Sized : List Rule → Type 0
Sized [] = Unit {0}
Sized (r ∷ rs) = ((r.size ≡ 2) ⊎ (r.size ≡ 4)) × Sized rs

first-sized : {rs : List Rule} {c : Clause} → First rs c → Sized rs → (c.size ≡ 2) ⊎ (c.size ≡ 4)
first-sized (here r rs k e) h = h.0
first-sized (behind r rs e f) h = first-sized f h.1

rules-sized : (d : Due) (f : List ℕ) (w : Walk) → Sized (rules_of d f w)
unfolding rules_of
rules-sized due.Generic f w = (inr refl, (inr refl, tt))
rules-sized due.Site f w = (inr refl, (inr refl, tt))
rules-sized due.Task f w = (inr refl, (inr refl, (inr refl, (inr refl, tt))))
rules-sized due.Cut f w = (inr refl, (inr refl, (inr refl, (inr refl, (inr refl, (inr refl, tt))))))
rules-sized due.Radial f w = (inr refl, (inr refl, (inr refl, (inr refl, (inr refl, (inr refl, (inr refl, (inr refl, (inr refl, (inr refl, (inr refl, tt)))))))))))
rules-sized due.Moment f w = (inr refl, (inr refl, (inr refl, (inl refl, (inr refl, tt)))))
rules-sized due.Data f w = tt
rules-sized due.Nothing f w = tt

pub clause-sized : (f : List ℕ) (w : Walk) (c : Clause) → verdict (rules_of w.due f w) ≡ Err c → (c.size ≡ 2) ⊎ (c.size ≡ 4)
clause-sized f w c e = first-sized (decided-first (rules_of w.due f w) c e) (rules-sized w.due f w)

-- ---- no file has more than 65,536 whole radials (number 12)

last-nth : (l : List Stretch) → 0 < length l → (s : Stretch) × (nth l (length l) ≡ Some s)
unfolding nth
last-nth [] h = absurd (omega arith)
last-nth (s ∷ []) h = (s, refl)
last-nth (s ∷ (t ∷ l)) h = last-nth (t ∷ l) (omega arith)

pub few-radials : (f : List ℕ) → (stop f).count.whole ≤ 65536
unfolding radial_check
few-radials f = go (length (stretches f)) refl
  where
    go : (n : ℕ) → length (stretches f) ≡ n → (stop f).count.whole ≤ 65536
    go zero e = let c = counted-all f in omega arith
    go (suc n) e =
        let x = last-nth (stretches f) (omega arith) in
        let s = x.0 in
        let q = nth-sequence f (length (stretches f)) s x.1 in
        let w : WholeRadial f s = nth_of (AllWhole f) (WholeRadial f) (λ y l h. h) (stretches f) (length (stretches f)) s (all_whole f) x.1 in
        let h = header (radial_at f s.start) w.against (all_hold (radial_rules (radial_at f s.start) w.against) w.header) in
        let a = h.sequence in
        let b = h.in-volume in
        let c = counted-all f in
        omega arith
