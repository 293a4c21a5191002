-- What is cited of a file, by the structure: specs/Grounds, of every file. Assumes nothing.
use Prim.Native.Nat.{ℕ, ◌+◌, ◌≤◌, ◌<◌}
use native.Mathlib.Omega.{arith}
use mathlib.Core.Bool.{false}
use mathlib.Core.List.{List, [], ◌∷◌, ◌++◌, append-nil}
use mathlib.Core.Logic.{◌⊎◌, inl, inr}
use mathlib.Core.Path.{◌≡◌, refl, sym, ap, ap₂, subst, subst⁻¹, ◌∙◌}
use lib.ListN.{length, take, length-append}
use Rattle.le.specs.Le.{Bytes}
use Rattle.rules.specs.Check.{Check}
use Rattle.std.specs.Prelude.{Ok, Err, Some}
use Rattle.rules.specs.declared.check.Clause.{Clause}
use Rattle.rules.specs.Check.{Hold, First, verdict}
use Rattle.rules.proofs.Judged.{first-decides, fine-if}
use Rattle.walk.specs.declared.due.Due.{Due}
use Rattle.walk.specs.declared.due.Due.TheVariants as due
use Rattle.walk.specs.declared.due.Walk.{Walk}
use Rattle.walk.specs.Due.{is_end}
use Rattle.reading.specs.declared.Stretch.{Stretch}
use Rattle.reading.specs.Reading.{stop, stretches, nth, told}
use Rattle.reading.proofs.Counts.{counted-all}
use Rattle.reading.proofs.Closing.{closed}
use Rattle.volume.specs.Volume.{Volume, bytes_of_volume}
use Rattle.volume.specs.Accepted.{Accepted, volume, bytes_of_accepted, due_size, due_rules, Says}
use Rattle.volume.specs.Accepted as says
use Rattle.volume.specs.Meaning.{accepted_stretches, volume_stretches}
use Rattle.volume.proofs.Stops.{Behind, none_first}
use Rattle.hope.specs.Hope.{Begins}
use Rattle.hope.specs.Meaning.{Hopeful, HopeSays}
use Rattle.hope.specs.Meaning as hope
use Rattle.hope.proofs.Meaning.{means}
use Rattle.citing.specs.declared.refusals.Why.{Why}
use Rattle.citing.specs.declared.refusals.Why.TheVariants as why
use Rattle.citing.specs.Refusals.{block, block_due, by_rules, cited_of, refusal_of, trailing_clause, why_of}
use Rattle.citing.specs.Grounds.{Grounds, Grounded, complete, missing, trailing, clause, hopeless}
use Rattle.citing.proofs.Stops.{cites-told, behind, size_is, going, rules-are, block-is}
use Rattle.citing.proofs.Whys.{why-over, why-here}

-- a refusal tells which answer it is
open-only : (x : Why) (m : ℕ) → refusal_of x ≡ 1 ∷ m ∷ [] → x ≡ why.Open m
open-only why.Complete m e = absurd (let z : ◌≡◌ {A = ℕ} 0 1 = cc in omega arith)
open-only (why.Open k) m e = cc
open-only (why.Broken c) m e = absurd (let z : ◌≡◌ {A = ℕ} 2 1 = cc in omega arith)
open-only (why.Hopeless b) m e = absurd (let z : ◌≡◌ {A = ℕ} 2 1 = cc in omega arith)

complete-only : (x : Why) → refusal_of x ≡ 0 ∷ [] → x ≡ why.Complete
complete-only why.Complete e = refl
complete-only (why.Open k) e = absurd (let z : ◌≡◌ {A = ℕ} 1 0 = cc in omega arith)
complete-only (why.Broken c) e = absurd (let z : ◌≡◌ {A = ℕ} 2 0 = cc in omega arith)
complete-only (why.Hopeless b) e = absurd (let z : ◌≡◌ {A = ℕ} 2 0 = cc in omega arith)

-- the last of some stretches
pub last-is : (l : List Stretch) (s : Stretch) → nth (l ++ (s ∷ [])) (length (l ++ (s ∷ []))) ≡ Some s
unfolding nth
last-is [] s = refl
last-is (x ∷ []) s = refl
last-is (x ∷ (y ∷ l)) s = last-is (y ∷ l) s

module _ (a : Accepted) (rest : List ℕ) (bs : Bytes (bytes_of_accepted a ++ rest)) (h : Hopeful a) (b : Behind a (stop (bytes_of_accepted a ++ rest))) (at : (stop (bytes_of_accepted a ++ rest)).at ≡ length (bytes_of_accepted a)) where
  abbrev f : List ℕ
  f = bytes_of_accepted a ++ rest

  abbrev w : Walk
  w = stop (bytes_of_accepted a ++ rest)

  -- the due block is there, and its rules say this
  here : (v : Check) → due_size a ≤ length rest → is_end w.due ≡ false → verdict (due_rules a rest) ≡ v → why_of f ≡ by_rules f w v
  here v d i e =
      let l = length-append (bytes_of_accepted a) rest in
      let s = size_is a w b in
      why-here f w i (omega arith) ∙ ap (by_rules f w) (ap verdict (rules-are a rest w b at) ∙ e)

  by-clause : (c : Clause) → due_size a ≤ length rest → is_end w.due ≡ false → First (due_rules a rest) c → Grounds a rest (why_of f)
  unfolding by_rules
  by-clause c d i k =
      let q = block-is a rest w h.is b at i in
      subst⁻¹ (Grounds a rest) (here (Err c) d i (first-decides k) ∙ (λ j. why.Broken (cited_of f (at j + c.place) (q j) c))) (clause a rest c d k)

  by-none : due_size a ≤ length rest → is_end w.due ≡ false → Hold (due_rules a rest) → (Begins (bytes_of_accepted a ++ take (due_size a) rest) → ⊥) → Grounds a rest (why_of f)
  unfolding by_rules
  by-none d i k none = subst⁻¹ (Grounds a rest) (here (Ok tt) d i (fine-if (due_rules a rest) k) ∙ ap why.Hopeless (block-is a rest w h.is b at i)) (hopeless a rest d k none)

-- bytes behind a volume
by-trailing : (v : Volume) (rest : List ℕ) → 0 < length rest → Behind (volume v) (stop (bytes_of_volume v ++ rest)) → (stop (bytes_of_volume v ++ rest)).at ≡ length (bytes_of_volume v) → stretches (bytes_of_volume v ++ rest) ≡ volume_stretches v
    → Grounds (volume v) rest (why_of (bytes_of_volume v ++ rest))
unfolding block_due is_end
by-trailing v rest some b at radials =
    let f = bytes_of_volume v ++ rest in
    let w = stop f in
    let l = length-append (bytes_of_volume v) rest in
    let x = closed f b in
    let all : volume_stretches v ≡ x.before ++ (x.last ∷ []) = sym radials ∙ x.all in
    let count : w.count.whole ≡ length (volume_stretches v) = counted-all f ∙ ap length radials in
    let its : nth (volume_stretches v) (length (volume_stretches v)) ≡ Some x.last = ap (λ (ss : List Stretch). nth ss (length ss)) all ∙ last-is x.before x.last in
    let is : block_due w.due f w ≡ block due.Radial (length (volume_stretches v)) 0 x.last.start = ap (λ (d : Due). block_due d f w) b ∙ ap₂ (λ (n p : ℕ). block due.Radial n 0 p) count (sym x.start) in
    subst⁻¹ (Grounds (volume v) rest) (why-over f w (ap is_end b) (omega arith) ∙ (λ j. why.Broken (cited_of f (sym x.end j) (is j) trailing_clause)))
    (trailing v rest x.last some its (x.end ∙ at))

-- a volume's own bytes begin a volume
no-loss : (v : Volume) (rest : List ℕ) → Hopeful (volume v) → (Begins (bytes_of_volume v ++ take 0 rest) → ⊥) → ⊥
no-loss v rest h none = none (subst Begins (sym (append-nil (bytes_of_volume v))) h.hope)

grounds-of : (a : Accepted) (rest x : List ℕ) → Bytes (bytes_of_accepted a ++ rest) → Hopeful a → Behind a (stop (bytes_of_accepted a ++ rest)) → (stop (bytes_of_accepted a ++ rest)).at ≡ length (bytes_of_accepted a)
    → stretches (bytes_of_accepted a ++ rest) ≡ accepted_stretches a → told (bytes_of_accepted a ++ rest) ≡ x → HopeSays a rest x → Grounds a rest (why_of (bytes_of_accepted a ++ rest))
grounds-of a rest x bs h b at rs t (hope.plainly _ _ _ s) = by s t bs h b at rs
  where
    by : {a : Accepted} {rest x : List ℕ} → Says a rest x → told (bytes_of_accepted a ++ rest) ≡ x → Bytes (bytes_of_accepted a ++ rest) → Hopeful a → Behind a (stop (bytes_of_accepted a ++ rest))
        → (stop (bytes_of_accepted a ++ rest)).at ≡ length (bytes_of_accepted a) → stretches (bytes_of_accepted a ++ rest) ≡ accepted_stretches a → Grounds a rest (why_of (bytes_of_accepted a ++ rest))
    by (says.complete v) t bs h b at rs = subst⁻¹ (Grounds (volume v) []) (complete-only _ (cites-told (bytes_of_volume v ++ []) ∙ t)) (complete v)
    by (says.follow v y ys) t bs h b at rs = by-trailing v (y ∷ ys) (omega arith) b at rs
    by (says.missing a rest m) t bs h b at rs = subst⁻¹ (Grounds a rest) (open-only _ _ (cites-told (bytes_of_accepted a ++ rest) ∙ t)) (missing a rest m)
    by (says.broken a rest c d k) t bs h b at rs = go (going a (stop (bytes_of_accepted a ++ rest)) b)
      where
        go : (is_end (stop (bytes_of_accepted a ++ rest)).due ≡ false) ⊎ ((v : Volume) × (a ≡ volume v)) → Grounds a rest (why_of (bytes_of_accepted a ++ rest))
        go (inl i) = by-clause a rest bs h b at c d i k
        go (inr v) = absurd (none_first c (subst (λ (z : Accepted). First (due_rules z rest) c) v.1 k))
grounds-of a rest x bs h b at rs t (hope.hopeless _ _ d k none) = go (going a (stop (bytes_of_accepted a ++ rest)) b)
  where
    go : (is_end (stop (bytes_of_accepted a ++ rest)).due ≡ false) ⊎ ((v : Volume) × (a ≡ volume v)) → Grounds a rest (why_of (bytes_of_accepted a ++ rest))
    go (inl i) = by-none a rest bs h b at d i k none
    go (inr v) = absurd (no-loss v.0 rest (subst Hopeful v.1 h) (subst (λ (z : Accepted). Begins (bytes_of_accepted z ++ take (due_size z) rest) → ⊥) v.1 none))

pub grounded : (f : List ℕ) → Bytes f → Grounded f
grounded f bs =
    let p = means.accepts f bs in
    let e = p.bytes in
    record {
      accepted = p.accepted;
      hopeful = p.hopeful;
      rest = p.rest;
      bytes = e;
      grounds =
          subst (λ (g : List ℕ). Grounds p.accepted p.rest (why_of g)) e
          (grounds-of p.accepted p.rest p.verdict (subst⁻¹ Bytes e bs) p.hopeful (subst⁻¹ (λ (g : List ℕ). Behind p.accepted (stop g)) e (behind f bs p))
          (subst⁻¹ (λ (g : List ℕ). (stop g).at ≡ length (bytes_of_accepted p.accepted)) e p.told.read)
          (subst⁻¹ (λ (g : List ℕ). stretches g ≡ accepted_stretches p.accepted) e p.told.radials)
          (subst⁻¹ (λ (g : List ℕ). told g ≡ p.verdict) e p.told.verdict)
          p.says);
    }
