-- What each plan says of the file. Assumes nothing.
use Prim.Native.Nat.{ℕ}
use mathlib.Core.Bool.{Bool, true, false, cond}
use mathlib.Core.List.{List}
use mathlib.Core.Path.{◌≡◌, refl, subst}
use lib.ListN.{length}
use Rattle.std.specs.Prelude.{Option, Some, None}
use Rattle.index.specs.Answer.{complete}
use Rattle.reading.specs.declared.Stretch.{Stretch}
use Rattle.reading.specs.Reading.{stretches}
use Rattle.pick.specs.declared.plan.Plan.{Plan}
use Rattle.pick.specs.declared.plan.Plan.TheVariants.{Fits, Empty, Unfinished}
use Rattle.pick.specs.Pick.{empty_in, picked, plan_by, plan_of}

module _ (wanted : ℕ) (f : List ℕ) where
  -- by the plan
  pub data Says : Plan → Type 0 where
    unfinished : complete f ≡ false → Says Unfinished
    empty : (s : Stretch) → complete f ≡ true → empty_in wanted f ≡ Some s → Says (Empty s.start)
    fits : complete f ≡ true → empty_in wanted f ≡ None → Says (Fits (length (stretches f)) (length (picked wanted f)))

  pub says : Says (plan_of wanted f)
  unfolding plan_by
  says = go (complete f) refl (empty_in wanted f) refl
    where
      go : (b : Bool) → complete f ≡ b → (e : Option Stretch) → empty_in wanted f ≡ e → Says (cond b (plan_by e (length (stretches f)) (length (picked wanted f))) Unfinished)
      go false c e d = unfinished c
      go true c (Some s) d = empty s c d
      go true c None d = fits c d

  -- it fits
  pub record Fitting (radials size : ℕ) : Type 0 where
    pub whole : complete f ≡ true
    pub left : empty_in wanted f ≡ None
    pub all : radials ≡ length (stretches f)
    pub long : size ≡ length (picked wanted f)

  -- a radial would have no moment left
  pub record Emptied (place : ℕ) : Type 0 where
    pub whole : complete f ≡ true
    pub first : Stretch
    pub is : empty_in wanted f ≡ Some first
    pub at : place ≡ first.start

  abbrev Told : Plan → Type 0
  Told (Fits radials size) = Fitting radials size
  Told (Empty place) = Emptied place
  Told Unfinished = complete f ≡ false

  told : {p : Plan} → Says p → Told p
  told (unfinished c) = c
  told (empty s c d) = record { whole = c; first = s; is = d; at = refl }
  told (fits c d) = record { whole = c; left = d; all = refl; long = refl }

  pub fitting : (radials size : ℕ) → plan_of wanted f ≡ Fits radials size → Fitting radials size
  fitting radials size e = told (subst Says e says)

  pub emptied : (place : ℕ) → plan_of wanted f ≡ Empty place → Emptied place
  emptied place e = told (subst Says e says)

  pub not-complete : plan_of wanted f ≡ Unfinished → complete f ≡ false
  not-complete e = told (subst Says e says)
