-- What is cited is what is told; and the walk at which reading stops, its block and its rules, by the structure. Assumes nothing.
use Prim.Native.Nat.{ℕ, suc, ◌+◌, ◌-◌, ◌≤◌, ◌<◌}
use native.Mathlib.Omega.{arith}
use mathlib.Core.Bool.{Bool, true, false}
use mathlib.Core.List.{List, [], ◌∷◌, ◌++◌, append_assoc, append-nil}
use mathlib.Core.Logic.{◌⊎◌, inl, inr}
use mathlib.Core.Path.{◌≡◌, refl, sym, ap, ap₂, subst, ◌∙◌}
use lib.ListN.{length, take, length-reverse}
use lib.Seq.{take_at}
use Rattle.le.specs.Le.{part, run, Bytes}
use Rattle.le.proofs.Laws.{part-all, part_in, part-past}
use Rattle.rules.specs.Check.{Check}
use Rattle.std.specs.Prelude.{Ok, Err}
use Rattle.rules.specs.declared.check.Clause.{Clause}
use Rattle.rules.specs.Check.{verdict}
use Rattle.rules.proofs.Judged.{decided-first, all_hold}
use Rattle.cut.specs.Cut.{cut_of, cut_at, cut_rules}
use Rattle.generic.specs.Generic.{generic_of, generic_at, generic_rules}
use Rattle.moment.specs.declared.MomentDue.{MomentDue}
use Rattle.moment.specs.Moment.{moment_of, moment_at, moment_rules}
use Rattle.radial.specs.declared.Radial.{Radial}
use Rattle.radial.specs.declared.RadialDue.{RadialDue}
use Rattle.radial.specs.Radial.{radial_of, radial_at, radial_bytes, radial_rules}
use Rattle.radial.proofs.Trips as radial-trip
use Rattle.site.specs.Site.{site_of, site_at, site_rules}
use Rattle.task.specs.Task.{task_of, task_at, task_rules}
use Rattle.walk.specs.declared.due.Due.{Due}
use Rattle.walk.specs.declared.due.Due.TheVariants as due
use Rattle.walk.specs.declared.due.Walk.{Walk}
use Rattle.walk.specs.Due.{at_start, is_end, size_at, size_of}
use Rattle.reading.specs.declared.step.Step.{Step}
use Rattle.reading.specs.declared.step.Step.TheVariants as step
use Rattle.reading.specs.Step.{hope_at, hoping, settle, step_of}
use Rattle.reading.specs.Exactly.{rules_of, rule, trailing, hopeless}
use Rattle.reading.specs.Reading.{fuel, plain_stop, stop, told}
use Rattle.reading.proofs.Run.{View, view, is-here, Stays, run-stops, enough, last_within}
use Rattle.reading.proofs.Run as run
use Rattle.reading.proofs.Exactly.{settled, told-exactly}
use Rattle.volume.specs.Volume.{VolumeRadial, Volume, bytes_of_moment, bytes_of_volume}
use Rattle.volume.specs.Accepted.{Begun, Accepted, nothing, generic, site, task, radials, radial, moment, volume, volume_of, bytes_of_accepted, radials_in, RadialBegun, AcceptedOk, due_size, due_rules, Says, complete, missing}
use Rattle.volume.proofs.Stops.{Behind}
use Rattle.volume.proofs.Tells.{stands-behind}
use Rattle.hope.specs.Meaning.{Parts}
use Rattle.hope.proofs.Meaning.{some-due}
use Rattle.hope.proofs.Told.{read_alike}
use Rattle.citing.specs.Refusals.{block, block_due, by_rules, refusal_of, why_of}
use Rattle.citing.specs.Grounds.{block_behind, CitesTold}
use Rattle.citing.proofs.Whys.{why-over, why-done, why-short, why-here, due-place}

stop-stays : (f : List ℕ) → Stays (step_of f (stop f))
stop-stays f = run-stops true (λ v. v) (λ v n r. r) f (λ w v. Stays (step_of f v)) (λ v h. h) (λ v m x e h. h) (fuel f) at_start (enough f at_start)

stop-within : (f : List ℕ) → (stop f).at ≤ length f
stop-within f = last_within true (fuel f) f at_start (omega arith)

-- ---- what is cited is what is told

-- where reading stops before a block that is there, its rules refuse it or hope does
data Stopped (f : List ℕ) (w : Walk) : Type 0 where
  by-rule : (c : Clause) → verdict (rules_of w.due f w) ≡ Err c → Stopped f w
  by-hope : verdict (rules_of w.due f w) ≡ (Ok tt) → Stopped f w

stopped : (f : List ℕ) (w : Walk) → Stopped f w
stopped f w = go (verdict (rules_of w.due f w)) refl
  where
    go : (v : Check) → verdict (rules_of w.due f w) ≡ v → Stopped f w
    go (Ok tt) e = by-hope e
    go (Err c) e = by-rule c e

-- where they do not, hope does: reading stops there
no-hope : (f : List ℕ) → is_end (stop f).due ≡ false → (stop f).at + size_of (stop f) ≤ length f → verdict (rules_of (stop f).due f (stop f)) ≡ (Ok tt)
    → hope_at (stop f).due (take ((stop f).at + size_of (stop f)) f) (stop f) ≡ false
unfolding hoping Stays settle
no-hope f i h e = go (hope_at (stop f).due (take ((stop f).at + size_of (stop f)) f) (stop f)) refl
  where
    go : (b : Bool) → hope_at (stop f).due (take ((stop f).at + size_of (stop f)) f) (stop f) ≡ b → b ≡ false
    go false q = refl
    go true q =
        let s = settled (stop f).due f (stop f) i in
        let t : step_of f (stop f) ≡ step.Took s.next = is-here f (stop f) i h ∙ ap₂ (λ (b : Bool) (x : Step). hoping b (stop f).at x) q (s.is ∙ ap (λ (v : Check). settle v (stop f).at s.next) e) in
        absurd (subst Stays t (stop-stays f))

cites-by : (f : List ℕ) → is_end (stop f).due ≡ false → (stop f).at + size_of (stop f) ≤ length f → Stopped f (stop f) → refusal_of (by_rules f (stop f) (verdict (rules_of (stop f).due f (stop f)))) ≡ told f
unfolding by_rules
cites-by f i h (by-rule c e) =
    ap (λ (v : Check). refusal_of (by_rules f (stop f) v)) e ∙ sym ((told-exactly f).refused-when c.number ((stop f).at + c.place) (rule c i h (decided-first (rules_of (stop f).due f (stop f)) c e)))
cites-by f i h (by-hope e) =
    ap (λ (v : Check). refusal_of (by_rules f (stop f) v)) e
    ∙ ap (λ (p : ℕ). 2 ∷ 40 ∷ p ∷ []) (due-place f (stop f) i)
    ∙ sym ((told-exactly f).refused-when 40 (stop f).at (hopeless i h (all_hold (rules_of (stop f).due f (stop f)) e) (no-hope f i h e)))

pub cites-told : CitesTold
cites-told f = go (view f (stop f))
  where
    go : View f (stop f) → refusal_of (why_of f) ≡ told f
    go (run.over i h) = ap refusal_of (why-over f (stop f) i h) ∙ sym ((told-exactly f).refused-when 25 (stop f).at (trailing i h))
    go (run.done i h) = let k = stop-within f in ap refusal_of (why-done f (stop f) i h) ∙ sym ((told-exactly f).complete-when (record { due = i; all = omega arith }))
    go (run.short i h) = ap refusal_of (why-short f (stop f) i h) ∙ sym ((told-exactly f).open-when _ (record { due = i; some = omega arith; missing = omega arith }))
    go (run.here i h) = ap refusal_of (why-here f (stop f) i h) ∙ cites-by f i h (stopped f (stop f))

-- ---- the walk behind accepted blocks

-- reading stops at the walk that stands behind the file's accepted blocks
pub behind : (f : List ℕ) (bs : Bytes f) (p : Parts f) → Behind p.accepted (stop f)
behind f bs p = subst (Behind a) (ap plain_stop (sym (take_at (bytes_of_accepted a) p.rest (length (bytes_of_accepted a)) refl) ∙ ap₂ take (sym p.told.read) p.bytes) ∙ (read_alike f bs).stops) (by (some-due a p.hopeful.is))
  where
    a : Accepted
    a = p.accepted

    at-end : (x : List ℕ) → Says a [] x → Behind a (plain_stop (bytes_of_accepted a))
    at-end x s = subst (λ (l : List ℕ). Behind a (plain_stop l)) (append-nil (bytes_of_accepted a)) (stands-behind a [] x p.hopeful.is s)

    by : (0 < due_size a) ⊎ ((v : Volume) × (a ≡ volume v)) → Behind a (plain_stop (bytes_of_accepted a))
    by (inl h) = at-end _ (missing a [] h)
    by (inr h) = at-end (0 ∷ []) (subst (λ (c : Accepted). Says c [] (0 ∷ [])) (sym h.1) (complete h.0))

-- the due block has its size
pub size_is : (a : Accepted) (w : Walk) → Behind a w → size_of w ≡ due_size a
unfolding size_at
size_is nothing w b = ap (λ (d : Due). size_at d w.rest.length) b
size_is (generic g) w b = ap (λ (d : Due). size_at d w.rest.length) b
size_is (site g s) w b = ap (λ (d : Due). size_at d w.rest.length) b
size_is (task g s t cs) w b = ap (λ (d : Due). size_at d w.rest.length) b.0
size_is (radials x) w b = ap (λ (d : Due). size_at d w.rest.length) b.0
size_is (radial x r) w b = ap (λ (d : Due). size_at d w.rest.length) b.0
size_is (moment x r m) w b = ap (λ (d : Due). size_at d w.rest.length) b.0 ∙ b.1
size_is (volume v) w b = ap (λ (d : Due). size_at d w.rest.length) b

-- a block is due, or a volume is over
pub going : (a : Accepted) (w : Walk) → Behind a w → (is_end w.due ≡ false) ⊎ ((v : Volume) × (a ≡ volume v))
unfolding is_end
going nothing w b = inl (ap is_end b)
going (generic g) w b = inl (ap is_end b)
going (site g s) w b = inl (ap is_end b)
going (task g s t cs) w b = inl (ap is_end b.0)
going (radials x) w b = inl (ap is_end b.0)
going (radial x r) w b = inl (ap is_end b.0)
going (moment x r m) w b = inl (ap is_end b.0)
going (volume v) w b = inr (v, refl)

-- what stands behind some bytes
past : (n : ℕ) (a rest : List ℕ) (at : ℕ) → at ≡ length a → part n (a ++ rest) at ≡ part n rest 0
past n a rest at e = let z : at ≡ length a + 0 = omega arith in ap (part n (a ++ rest)) z ∙ part-past n a rest 0

-- its rules are those of its place in the structure
pub rules-are : (a : Accepted) (rest : List ℕ) (w : Walk) → Behind a w → w.at ≡ length (bytes_of_accepted a) → rules_of w.due (bytes_of_accepted a ++ rest) w ≡ due_rules a rest
unfolding rules_of generic_at site_at task_at cut_at radial_at moment_at
rules-are nothing rest w b e = ap (λ (d : Due). rules_of d rest w) b ∙ ap (λ (l : List ℕ). generic_rules (generic_of l)) (past 32 [] rest w.at e)
rules-are (generic g) rest w b e = ap (λ (d : Due). rules_of d (bytes_of_accepted (generic g) ++ rest) w) b ∙ ap (λ (l : List ℕ). site_rules (site_of l)) (past 128 (bytes_of_accepted (generic g)) rest w.at e)
rules-are (site g s) rest w b e = ap (λ (d : Due). rules_of d (bytes_of_accepted (site g s) ++ rest) w) b ∙ ap (λ (l : List ℕ). task_rules (task_of l)) (past 256 (bytes_of_accepted (site g s)) rest w.at e)
rules-are (task g s t cs) rest w b e = ap (λ (d : Due). rules_of d (bytes_of_accepted (task g s t cs) ++ rest) w) b.0 ∙ ap (λ (l : List ℕ). cut_rules (cut_of l)) (past 256 (bytes_of_accepted (task g s t cs)) rest w.at e)
rules-are (radials x) rest w b e =
    ap (λ (d : Due). rules_of d (bytes_of_accepted (radials x) ++ rest) w) b.0 ∙ ap₂ (λ (l : List ℕ) (d : RadialDue). radial_rules (radial_of l) d) (past 64 (bytes_of_accepted (radials x)) rest w.at e) b.1
rules-are (radial x r) rest w b e =
    ap (λ (d : Due). rules_of d (bytes_of_accepted (radial x r) ++ rest) w) b.0 ∙ ap₂ (λ (l : List ℕ) (d : MomentDue). moment_rules (moment_of l) d) (past 32 (bytes_of_accepted (radial x r)) rest w.at e) b.1
rules-are (moment x r m) rest w b e = ap (λ (d : Due). rules_of d (bytes_of_accepted (moment x r m) ++ rest) w) b.0
rules-are (volume v) rest w b e = ap (λ (d : Due). rules_of d (bytes_of_volume v ++ rest) w) b

-- the header of a begun radial stands in the file
header-there : (x : Begun) (r : VolumeRadial) (rest : List ℕ) → RadialBegun x r → radial_at (bytes_of_accepted (radial x r) ++ rest) (length (bytes_of_volume (volume_of x))) ≡ r.header
unfolding radial_at
header-there x r rest ok =
    let a = bytes_of_volume (volume_of x) in
    let h = radial_bytes r.header in
    let q = run bytes_of_moment r.moments in
    let e : (a ++ (h ++ q)) ++ rest ≡ a ++ (h ++ (q ++ rest)) = append_assoc a (h ++ q) rest ∙ ap (λ (l : List ℕ). a ++ l) (append_assoc h q rest) in
    ap radial_of (ap (λ (l : List ℕ). part 64 l (length a)) e ∙ past 64 a (h ++ (q ++ rest)) (length a) refl ∙ part_in 64 h (q ++ rest) 0 (let l = radial-trip.length-is r.header ok.fits in omega arith) ∙ part-all 64 h (radial-trip.length-is r.header ok.fits))
    ∙ radial-trip.there_and_back r.header ok.fits

-- the block that is cited is the one that is due there
pub block-is : (a : Accepted) (rest : List ℕ) (w : Walk) → AcceptedOk a → Behind a w → w.at ≡ length (bytes_of_accepted a) → is_end w.due ≡ false → block_due w.due (bytes_of_accepted a ++ rest) w ≡ block_behind a
unfolding block_due is_end
block-is nothing rest w ok b e i = ap (λ (d : Due). block_due d rest w) b ∙ ap (block due.Generic 1 0) e
block-is (generic g) rest w ok b e i = ap (λ (d : Due). block_due d (bytes_of_accepted (generic g) ++ rest) w) b ∙ ap (block due.Site 1 0) e
block-is (site g s) rest w ok b e i = ap (λ (d : Due). block_due d (bytes_of_accepted (site g s) ++ rest) w) b ∙ ap (block due.Task 1 0) e
block-is (task g s t cs) rest w ok b e i =
    let n = b.1 in
    let k = b.2 in
    let l = ok.3 in
    let q : w.plan.cuts - w.rest.todo + 1 ≡ suc (length cs) = omega arith in
    ap (λ (d : Due). block_due d (bytes_of_accepted (task g s t cs) ++ rest) w) b.0 ∙ ap₂ (λ (n at : ℕ). block due.Cut n 0 at) q e
block-is (radials x) rest w ok b e i =
    let n = ap (λ (d : RadialDue). d.before) b.1 in
    let q : w.count.whole + 1 ≡ suc (radials_in x.closed + length x.now) = omega arith in
    ap (λ (d : Due). block_due d (bytes_of_accepted (radials x) ++ rest) w) b.0 ∙ ap₂ (λ (n at : ℕ). block due.Radial n 0 at) q e
block-is (radial x r) rest w ok b e i =
    let f = bytes_of_accepted (radial x r) ++ rest in
    let n = b.3 in
    let q : w.count.whole + 1 ≡ suc (radials_in x.closed + length x.now) = omega arith in
    let t = ap (λ (d : MomentDue). d.todo) b.1 in
    let h : (radial_at f w.present.start).moment_number ≡ r.header.moment_number = ap (λ (k : ℕ). (radial_at f k).moment_number) b.2 ∙ ap (λ (g : Radial). g.moment_number) (header-there x r rest ok.1) in
    let l = length-reverse r.moments in
    let few = ok.1.fewer in
    let z : (radial_at f w.present.start).moment_number - w.rest.todo + 1 ≡ suc (length r.moments) = omega arith in
    ap (λ (d : Due). block_due d f w) b.0 ∙ (λ j. block due.Moment (q j) (z j) (e j))
block-is (moment x r m) rest w ok b e i = ap (λ (d : Due). block_due d (bytes_of_accepted (moment x r m) ++ rest) w) b.0 ∙ ap (block due.Data 0 0) e
block-is (volume v) rest w ok b e i = absurd (let k : is_end due.Nothing ≡ false = rw b at i in let z : ◌≡◌ {A = ℕ} 0 1 = cc in omega arith)
