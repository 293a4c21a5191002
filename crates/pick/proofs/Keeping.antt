-- The wanted ones among the moments that are still to come, from place to place. Assumes nothing.
use Prim.Native.Nat.{ℕ, zero, suc, ◌+◌, ◌-◌, ◌≤◌, ◌<◌}
use native.Mathlib.Nat.{zero-add}
use native.Mathlib.Omega.{arith}
use mathlib.Core.Bool.{Bool, true, false, cond}
use mathlib.Core.List.{List, [], ◌∷◌, ◌++◌}
use mathlib.Core.Path.{◌≡◌, refl, sym, ap, subst, ◌∙◌}
use borrow.Author.Tests.{leb-true}
use lib.Dec.{leb}
use lib.ListN.{length, take, drop, length-append, length-take, length-drop}
use Rattle.std.specs.Prelude.{Option, Some, None}
use Rattle.le.specs.Le.{run}
use Rattle.rules.specs.Masks.{bit}
use Rattle.moment.specs.Moment.{moment_at}
use Rattle.moments.specs.declared.Place.{Place}
use Rattle.moments.specs.Moments.{after, ahead_from, ahead_of, first_of, moments_from, moments_at}
use Rattle.moments.proofs.Laws.{there, end}
use Rattle.radial.specs.Radial.{radial_at}
use Rattle.pick.specs.Keep.{wanted_in, wanted_of, moment_run, kept_bytes}

module _ (wanted : ℕ) (b : List ℕ) where
  -- the wanted ones of those to come, and their bytes
  abbrev pub still : Place → List ℕ
  still p = wanted_in wanted b (moments_at b p)

  abbrev pub still_run : Place → List ℕ
  still_run p = run (moment_run b) (still p)

  -- the next moment stands behind the one that a step finds
  next-at : (p : Place) (at : ℕ) (q : Place) → ahead_of b p ≡ Some (at, q) → q.at ≡ after b at
  unfolding ahead_from
  next-at p at q e = go p.todo p.at e
    where
      Ends : Option (ℕ × Place) → Type 0
      Ends (Some (a, r)) = r.at ≡ after b a
      Ends None = Unit {0}

      on : (k a : ℕ) (t : Bool) → Ends (cond t (Some (a, (record { todo = k; at = after b a }))) None)
      on k a true = refl
      on k a false = tt

      go : (k a : ℕ) → ahead_from k b a ≡ Some (at, q) → q.at ≡ after b at
      go zero a d = absurd (let z : ◌≡◌ {A = ℕ} 0 1 = cc in omega arith)
      go (suc k) a d = subst Ends d (on k a (leb (a + 32) (length b)))

  -- a step that finds a wanted moment, with its header and data m
  pub record Gets (p q : Place) (m : List ℕ) : Type 0 where
    pub fewer : q.todo < p.todo
    pub count : length (still p) ≡ suc (length (still q))
    pub front : still_run p ≡ m ++ still_run q
    pub long : length (still_run p) ≡ length m + length (still_run q)

  pub gets : (p : Place) (at : ℕ) (q : Place) (m : List ℕ) → ahead_of b p ≡ Some (at, q) → bit wanted (moment_at b at).data_type ≡ true → m ≡ take (q.at - at) (drop at b) → Gets p q m
  unfolding wanted_in run
  gets p at q m e k d =
      let n = next-at p at q e in
      let g = there b p at q e in
      let w : still p ≡ at ∷ still q = rw (g.more, k) in
      let l : 32 + (moment_at b at).length ≡ q.at - at = omega arith in
      let f : still_run p ≡ m ++ still_run q = rw w (ap (λ (x : List ℕ). x ++ still_run q) (ap (λ (x : ℕ). take x (drop at b)) l ∙ sym d)) in
      record { fewer = g.fewer; count = ap length w; front = f; long = ap length f ∙ length-append m (still_run q) }

  -- one that finds another moment
  pub skips : (p : Place) (at : ℕ) (q : Place) → ahead_of b p ≡ Some (at, q) → bit wanted (moment_at b at).data_type ≡ false → still p ≡ still q
  unfolding wanted_in
  skips p at q e k = rw ((there b p at q e).more, k)

  -- and one that finds none
  pub none-still : (p : Place) → ahead_of b p ≡ None → still p ≡ []
  unfolding wanted_in
  none-still p e = rw (end b p e)

  -- they are no more, and have no more bytes, than b has from there on
  one_more : (at : ℕ) (t : Bool) → at + 32 ≤ length b → (l : List ℕ) → length l ≤ length b - after b at → length (cond t (at ∷ l) l) ≤ length b - at
  one_more at true h l r = omega arith
  one_more at false h l r = omega arith

  few-from : (k at : ℕ) → length (wanted_in wanted b (moments_from k b at)) ≤ length b - at
  unfolding wanted_in moments_from
  few-from zero at = omega arith
  few-from (suc k) at = go (leb (at + 32) (length b)) refl (few-from k (after b at))
    where
      go : (t : Bool) → leb (at + 32) (length b) ≡ t → length (wanted_in wanted b (moments_from k b (after b at))) ≤ length b - after b at
          → length (wanted_in wanted b (moments_from (suc k) b at)) ≤ length b - at
      go true e r = rw e (one_more at (bit wanted (moment_at b at).data_type) (leb-true (at + 32) (length b) e) _ r)
      go false e r = rw e (omega arith)

  run_more : (at : ℕ) (t : Bool) → at + 32 ≤ length b → (l : List ℕ) → length (run (moment_run b) l) ≤ length b - after b at → length (run (moment_run b) (cond t (at ∷ l) l)) ≤ length b - at
  unfolding run
  run_more at true h l r =
      let a = length-append (moment_run b at) (run (moment_run b) l) in
      let m = length-take (32 + (moment_at b at).length) (drop at b) in
      let d = length-drop at b in
      omega arith
  run_more at false h l r = omega arith

  short-from : (k at : ℕ) → length (run (moment_run b) (wanted_in wanted b (moments_from k b at))) ≤ length b - at
  unfolding wanted_in moments_from run
  short-from zero at = omega arith
  short-from (suc k) at = go (leb (at + 32) (length b)) refl (short-from k (after b at))
    where
      go : (t : Bool) → leb (at + 32) (length b) ≡ t → length (run (moment_run b) (wanted_in wanted b (moments_from k b (after b at)))) ≤ length b - after b at
          → length (run (moment_run b) (wanted_in wanted b (moments_from (suc k) b at))) ≤ length b - at
      go true e r = rw e (run_more at (bit wanted (moment_at b at).data_type) (leb-true (at + 32) (length b) e) _ r)
      go false e r = rw e (omega arith)

  pub short : length (kept_bytes wanted b) ≤ length b - 64
  short = short-from (radial_at b 0).moment_number 64

  -- ---- what was counted, with what is still to come, is what there is

  pub record Counted (p : Place) (count bytes : ℕ) : Type 0 where
    pub many : count + length (still p) ≡ length (wanted_of wanted b)
    pub long : bytes + length (still_run p) ≡ length (kept_bytes wanted b)

  pub counted_none : (p : Place) → p ≡ first_of b → Counted p 0 0
  counted_none p e = rw e (record { many = zero-add _; long = zero-add _ })

  pub counted-more : {p q : Place} {m : List ℕ} {count bytes : ℕ} → Counted p count bytes → Gets p q m → Counted q (count + 1) (bytes + length m)
  counted-more c g = let k = c.many in let r = c.long in let x = g.count in let y = g.long in record { many = omega arith; long = omega arith }

  -- no sum wraps
  pub counted-fits : {p q : Place} {m : List ℕ} {count bytes : ℕ} → Counted p count bytes → Gets p q m → (count + 1 ≤ length b) × (bytes + length m ≤ length b)
  counted-fits c g =
      let k = c.many in
      let r = c.long in
      let x = g.count in
      let y = g.long in
      let u = few-from (radial_at b 0).moment_number 64 in
      let v = short in
      (omega arith, omega arith)

  pub counted_same : {p q : Place} {count bytes : ℕ} → Counted p count bytes → still p ≡ still q → Counted q count bytes
  counted_same c e = record { many = rw (← e) c.many; long = rw (← e) c.long }

  pub counted-all : {p : Place} {count bytes : ℕ} → Counted p count bytes → still p ≡ [] → (count ≡ length (wanted_of wanted b)) × (bytes ≡ length (kept_bytes wanted b))
  unfolding run
  counted-all c e =
      let k = c.many in
      let r = c.long in
      let x = ap (length {A = ℕ}) e in
      let y = ap (λ (l : List ℕ). length (run (moment_run b) l)) e in
      (omega arith, omega arith)
