-- An old radial that is put block by block is kept: what its header says, and the kind and exact value of every gate. Assumes nothing.
use Rattle.std.proofs.Common.{◌≡◌, ℕ, ◌+◌, ◌*◌, ◌/◌, ◌%◌, ◌<◌, ◌≤◌, Bool, true, false, cond, eqb, ◌⊎◌, List, [], ◌∷◌, ◌++◌, length, get_or, sym, refl, ap, ◌∙◌, ap₂, inl, inr, ⊎_elim, append-nil, mod-eq_of_lt, arith, le-ltb, lt-ltb, eq-eqb, ne_eqb}
use Rattle.le.specs.Le.{Bytes, part, run}
use Rattle.le.proofs.Laws.{length_part}
use Rattle.std.specs.Prelude.{Ok}
use Rattle.moment.specs.declared.Moment.{Moment}
use Rattle.gates.specs.declared.Coding.{Coding}
use Rattle.gates.specs.Codes.{codes_of}
use Rattle.gates.specs.Gates.{told_of, values_of}
use Rattle.gates.specs.Telling.{refused, answered}
use Rattle.ask.specs.Answers as ask
use Rattle.ask.specs.Answers.{gate_in}
use Rattle.retold.specs.Retold.{Pair, among, moment_among, gate_among}
use Rattle.old.specs.declared.codes.Quantity.{Quantity}
use Rattle.old.specs.declared.codes.Quantity.TheVariants.{Reflectivity, Velocity, Width}
use Rattle.old.specs.declared.record.OldRadial.{OldRadial}
use Rattle.old.specs.Codes.{new_bytes, coding_of, meaning}
use Rattle.old.specs.Headers.{gates_of, place_of, old_codes, moment_from, moment_count, radial_from}
use Rattle.old.specs.Old.{OldFits, old_at, old_check}
use Rattle.old.proofs.Accepted.{rules-hold}
use Rattle.old.proofs.Angles.{angle-exact}
use Rattle.old.proofs.Back.{codes-length, moment-kept}
use Rattle.old.proofs.Fitting.{coding-small}
use Rattle.old.proofs.Times.{seconds-whole, time-back}
use Rattle.shelf.specs.Import.{moment_of, moments_of}
use Rattle.shelf.specs.Brought.{type_of, old_code, Means, HeaderKeeps, MomentKeeps}

-- ---- the header

pub header-keeps : (o : OldRadial) (sequence number : ℕ) → OldFits o → old_check o ≡ (Ok tt) → HeaderKeeps o (radial_from o sequence number)
unfolding radial_from
header-keeps o sequence number h fine =
    let time = (rules-hold o fine).1.0 in
    let whole = seconds-whole o.day o.milliseconds time in
    let back = time-back o.day o.milliseconds time in
    record {
      state = refl;
      elevation-number = refl;
      azimuth = angle-exact o.azimuth h.azimuth;
      elevation = angle-exact o.elevation h.elevation;
      day = ap (λ (x : ℕ). x / 86400 + 1) whole ∙ back.0;
      milliseconds = ap (λ (x : ℕ). x % 86400 * 1000 + o.milliseconds % 1000 * 1000 / 1000) whole ∙ back.1;
      no-rest = omega arith;
      spot-blank = refl;
      reserved = refl;
    }

-- ---- the moment of a type among those of the radial

pub type-is : (q : Quantity) (r : ℕ) → (coding_of q r).data_type ≡ type_of q
unfolding coding_of
type-is Reflectivity r = refl
type-is Velocity r = refl
type-is Width r = refl

module _ (o : OldRadial) (f : List ℕ) (at : ℕ) where
  abbrev own : Quantity → Pair
  own q = record { header = moment_from q o.resolution (gates_of q o); bytes = run new_bytes (part (gates_of q o) f (at + place_of q o)) }

  module _ {X : Type 0} (say : Moment → List ℕ → X) (none : X) where
    -- a moment of another type is passed over
    passed : (q : Quantity) (ps : List Pair) (t : ℕ) → (type_of q ≡ t → ⊥) → among say none (moment_of q o f at ++ ps) t ≡ among say none ps t
    unfolding moment_of among moment_from
    passed q ps t other = go (eqb (gates_of q o) 0)
      where
        go : (x : Bool) → among say none (cond x [] (own q ∷ []) ++ ps) t ≡ among say none ps t
        go true = refl
        go false =
            ap (λ (b : Bool). cond b (say (own q).header (own q).bytes) (among say none ps t))
            (ap (λ (n : ℕ). eqb n t) (type-is q o.resolution) ∙ ne_eqb (type_of q) t other)

    -- one of 0 gates is not there
    absent : (q : Quantity) (ps : List Pair) (t : ℕ) → gates_of q o ≡ 0 → among say none (moment_of q o f at ++ ps) t ≡ among say none ps t
    unfolding moment_of
    absent q ps t left = ap (λ (b : Bool). among say none (cond b [] (own q ∷ []) ++ ps) t) (eq-eqb (gates_of q o) 0 left)

    -- one that has gates is found by its type
    present : (q : Quantity) (ps : List Pair) → 0 < gates_of q o → among say none (moment_of q o f at ++ ps) (type_of q) ≡ say (own q).header (own q).bytes
    unfolding moment_of among moment_from
    present q ps some =
        ap (λ (b : Bool). among say none (cond b [] (own q ∷ []) ++ ps) (type_of q)) (ne_eqb (gates_of q o) 0 (λ z. omega arith))
        ∙ ap (λ (b : Bool). cond b (say (own q).header (own q).bytes) (among say none ps (type_of q)))
        (eq-eqb (own q).header.data_type (type_of q) (type-is q o.resolution))

    -- among the three
    pub found : (q : Quantity) → 0 < gates_of q o → among say none (moments_of o f at) (type_of q) ≡ say (own q).header (own q).bytes
    found Reflectivity some = present Reflectivity (moment_of Velocity o f at ++ moment_of Width o f at) some
    found Velocity some =
        passed Reflectivity (moment_of Velocity o f at ++ moment_of Width o f at) 3 (λ e. omega arith) ∙ present Velocity (moment_of Width o f at) some
    found Width some =
        passed Reflectivity (moment_of Velocity o f at ++ moment_of Width o f at) 4 (λ e. omega arith)
        ∙ passed Velocity (moment_of Width o f at) 4 (λ e. omega arith)
        ∙ ap (λ (l : List Pair). among say none l 4) (sym (append-nil (moment_of Width o f at)))
        ∙ present Width [] some

    skipped : (q : Quantity) (ps : List Pair) (t : ℕ) → (type_of q ≡ t → ⊥) ⊎ (gates_of q o ≡ 0) → among say none (moment_of q o f at ++ ps) t ≡ among say none ps t
    skipped q ps t = ⊎_elim (passed q ps t) (absent q ps t)

    pub nowhere : (t : ℕ) → ((q : Quantity) → (type_of q ≡ t → ⊥) ⊎ (gates_of q o ≡ 0)) → among say none (moments_of o f at) t ≡ none
    unfolding among
    nowhere t not =
        skipped Reflectivity (moment_of Velocity o f at ++ moment_of Width o f at) t (not Reflectivity)
        ∙ skipped Velocity (moment_of Width o f at) t (not Velocity)
        ∙ ap (λ (l : List Pair). among say none l t) (sym (append-nil (moment_of Width o f at)))
        ∙ skipped Width [] t (not Width)

  -- ---- its gates

  coding-is : (q : Quantity) → ask.coding_of (own q).header ≡ coding_of q o.resolution
  unfolding moment_from
  coding-is q =
      let c = coding-small q o.resolution in
      ap₂ (λ (a b : ℕ). record { data_type = (coding_of q o.resolution).data_type; scale = a; offset = b })
      (mod-eq_of_lt (omega arith)) (mod-eq_of_lt (omega arith))

  gates-are : (q : Quantity) → length (codes_of 2 (own q).bytes) ≡ gates_of q o
  gates-are q = codes-length (part (gates_of q o) f (at + place_of q o)) ∙ length_part (gates_of q o) f (at + place_of q o)

  own-gate : (q : Quantity) (i : ℕ) → i < gates_of q o
      → gate_in (own q).header (own q).bytes i ≡ answered (values_of (told_of (coding_of q o.resolution) (get_or (codes_of 2 (own q).bytes) i 0)))
  unfolding gate_in moment_from
  own-gate q i h =
      let n = gates-are q in
      ap (λ (b : Bool). cond b (answered (values_of (told_of (ask.coding_of (own q).header) (get_or (codes_of 2 (own q).bytes) i 0)))) (refused 32 0))
      (lt-ltb i (length (codes_of 2 (own q).bytes)) (omega arith))
      ∙ ap (λ (c : Coding). answered (values_of (told_of c (get_or (codes_of 2 (own q).bytes) i 0)))) (coding-is q)

  own-none : (q : Quantity) (i : ℕ) → gates_of q o ≤ i → gate_in (own q).header (own q).bytes i ≡ refused 32 0
  unfolding gate_in moment_from
  own-none q i h =
      let n = gates-are q in
      ap (λ (b : Bool). cond b (answered (values_of (told_of (ask.coding_of (own q).header) (get_or (codes_of 2 (own q).bytes) i 0)))) (refused 32 0))
      (le-ltb i (length (codes_of 2 (own q).bytes)) (omega arith))

  -- as many moments as the header says
  pub count-is : length (moments_of o f at) ≡ moment_count o.reflectivity o.doppler
  unfolding moment_of moment_count gates_of
  count-is = go (eqb o.reflectivity 0) (eqb o.doppler 0)
    where
      go : (a b : Bool)
          → length (cond a [] (own Reflectivity ∷ []) ++ (cond b [] (own Velocity ∷ []) ++ cond b [] (own Width ∷ []))) ≡ cond a 0 1 + cond b 0 2
      go true true = refl
      go true false = refl
      go false true = refl
      go false false = refl

-- ---- every gate is answered with what the old code means

module _ (f : List ℕ) (at : ℕ) (bytes : Bytes f) where
  pub gate-means : (q : Quantity) (i : ℕ) → i < gates_of q (old_at f at)
      → Means (gate_among (moments_of (old_at f at) f at) (type_of q) i) (meaning q (old_at f at).resolution (old_code q f at i))
  gate-means q i h =
      record {
        values = values_of (told_of (coding_of q (old_at f at).resolution) (get_or (codes_of 2 (run new_bytes (old_codes q f at))) i 0));
        answer = found (old_at f at) f at (λ x d. gate_in x d i) (refused 31 0) q (omega arith) ∙ own-gate (old_at f at) f at q i h;
        says = moment-kept q f at bytes i h;
      }

  pub no-gate : (q : Quantity) (i : ℕ) → 0 < gates_of q (old_at f at) → gates_of q (old_at f at) ≤ i
      → gate_among (moments_of (old_at f at) f at) (type_of q) i ≡ refused 32 0
  no-gate q i some h = found (old_at f at) f at (λ x d. gate_in x d i) (refused 31 0) q some ∙ own-none (old_at f at) f at q i h

pub moment-keeps : (o : OldRadial) (f : List ℕ) (at : ℕ) (q : Quantity) → 0 < gates_of q o → MomentKeeps (moment_among (moments_of o f at) (type_of q))
unfolding moment_from
moment-keeps o f at q some =
    record {
      header = moment_from q o.resolution (gates_of q o);
      answer = found o f at (λ x d. answered x) (refused 31 0) q some;
      bin-length = refl;
      flags = refl;
      reserved = refl;
    }

-- a type is that of one moment alone
pub types-apart : (p q : Quantity) → (type_of p ≡ type_of q → ⊥) ⊎ (p ≡ q)
types-apart Reflectivity Reflectivity = inr refl
types-apart Reflectivity Velocity = inl (λ e. omega arith)
types-apart Reflectivity Width = inl (λ e. omega arith)
types-apart Velocity Reflectivity = inl (λ e. omega arith)
types-apart Velocity Velocity = inr refl
types-apart Velocity Width = inl (λ e. omega arith)
types-apart Width Reflectivity = inl (λ e. omega arith)
types-apart Width Velocity = inl (λ e. omega arith)
types-apart Width Width = inr refl
