-- Any file is the bytes of a volume's beginning and a rest that says what is told: block by block as long as the due one is all
-- there and keeps its rules. No walk is in this; what is told then is so by Tells. Assumes nothing.
use Prim.Native.Nat.{ℕ, zero, suc, ◌+◌, ◌-◌, ◌<◌, ◌≤◌}
use native.Mathlib.Decide.{dec_le}
use native.Mathlib.Omega.{arith}
use mathlib.Core.Logic.{dite}
use mathlib.Core.Path.{◌≡◌, refl, sym, ap, subst, ◌∙◌}
use mathlib.Core.List.{List, [], ◌∷◌, ◌++◌, append_assoc, append-nil}
use lib.ListN.{length, drop, length-append}
use Rattle.le.specs.Le.{part, Bytes}
use Rattle.le.proofs.Laws.{length_part}
use Rattle.le.proofs.Here.{drop-bytes, cut-here}
use Rattle.le.proofs.Coded.{Coded, stood}
use Rattle.rules.specs.Check.{Rule, verdict, Hold, First}
use Rattle.rules.specs.Check.{Check}
use Rattle.std.specs.Prelude.{Ok, Err}
use Rattle.rules.proofs.Judged.{all_hold, decided-first}
use Rattle.cut.specs.Cut.{cut_at, cut_rules}
use Rattle.generic.specs.Generic.{generic_at, generic_rules}
use Rattle.moment.specs.Moment.{moment_at, moment_rules}
use Rattle.radial.specs.Radial.{radial_at, radial_rules}
use Rattle.site.specs.Site.{site_at, site_rules}
use Rattle.task.specs.Task.{task_at, task_rules}
use Rattle.generic.proofs.Trips as generic-trip
use Rattle.site.proofs.Trips as site-trip
use Rattle.task.proofs.Trips as task-trip
use Rattle.cut.proofs.Trips as cut-trip
use Rattle.radial.proofs.Trips as radial-trip
use Rattle.moment.proofs.Trips as moment-trip
use Rattle.reading.specs.Reading.{plain_told}
use Rattle.volume.specs.Volume.{bytes_of_volume}
use Rattle.volume.specs.Accepted.{Accepted, nothing, generic, site, task, radials, radial, moment, volume, bytes_of_accepted, due_radial, due_moment, AcceptedOk, due_size, due_rules, Says, complete, follow, missing, broken}
use Rattle.volume.specs.Meaning.{Holds, Told, Accepts}
use Rattle.volume.proofs.Grow.{tag, Next, next-generic, next-site, next-task, next-cut, next-radial, next-moment, next-data}
use Rattle.volume.proofs.Tells.{tells}

-- ---- the due block: it says what is told, or is accepted

pub data Tried (a : Accepted) (rest : List ℕ) : Type 0 where
  stops : (x : List ℕ) → Says a rest x → Tried a rest
  goes : (x g : List ℕ) → rest ≡ x ++ g → length x ≡ due_size a → Hold (due_rules a rest) → Bytes g → (n : Next a x) → tag n.accepted + (length g + length g) < tag a + (length rest + length rest) → Tried a rest

-- the rules of a record decide
by-rules : {A : Type 0} (K : Coded A) (a : Accepted) (rest : List ℕ) → Bytes rest → (rules : A → List Rule) → due_size a ≡ K.size → 0 < K.size → due_rules a rest ≡ rules (K.dec (part K.size rest 0))
    → ((r : A) → K.Fits r → Hold (rules r) → Next a (K.enc r)) → Tried a rest
by-rules K a rest bs rules size some same next = dite (dec_le (due_size a) (length rest)) (λ h. go h (verdict (rules (K.dec (part K.size rest 0)))) refl) (λ h. stops _ (missing a rest (omega arith)))
  where
    go : due_size a ≤ length rest → (v : Check) → verdict (rules (K.dec (part K.size rest 0))) ≡ v → Tried a rest
    go h (Err c) e = stops _ (broken a rest c h (subst (λ (l : List Rule). First l c) (sym same) (decided-first (rules (K.dec (part K.size rest 0))) c e)))
    go h (Ok tt) e =
        let r = K.dec (part K.size rest 0) in
        let g = drop (0 + K.size) rest in
        let s = stood K rest bs 0 (omega arith) in
        let n = next r s.fits (all_hold (rules r) e) in
        let o = n.other in
        let l = K.long r s.fits in
        let q : length rest ≡ length (K.enc r) + length g = ap length s.bytes ∙ length-append (K.enc r) g in
        goes (K.enc r) g s.bytes (l ∙ sym size) (subst Hold (sym same) (all_hold (rules r) e)) (drop-bytes rest (0 + K.size) (omega arith) bs) n (omega arith)

pub tried : (a : Accepted) → AcceptedOk a → (rest : List ℕ) → Bytes rest → Tried a rest
unfolding generic_at site_at task_at cut_at radial_at moment_at
tried nothing ok rest bs = by-rules generic-trip.coded nothing rest bs generic_rules refl (omega arith) refl (λ r fits rules. next-generic r (fits, rules))
tried (generic g) ok rest bs = by-rules site-trip.coded (generic g) rest bs site_rules refl (omega arith) refl (λ r fits rules. next-site g r ok (fits, rules))
tried (site g s) ok rest bs = by-rules task-trip.coded (site g s) rest bs task_rules refl (omega arith) refl (λ r fits rules. next-task g s r ok.0 ok.1 (fits, rules))
tried (task g s t cs) ok rest bs = by-rules cut-trip.coded (task g s t cs) rest bs cut_rules refl (omega arith) refl (λ r fits rules. next-cut g s t cs r ok fits rules)
tried (radials b) ok rest bs = by-rules radial-trip.coded (radials b) rest bs (λ r. radial_rules r (due_radial b)) refl (omega arith) refl (λ r fits rules. next-radial b r ok fits rules)
tried (radial b r) ok rest bs = by-rules moment-trip.coded (radial b r) rest bs (λ m. moment_rules m (due_moment b r)) refl (omega arith) refl (λ m fits rules. next-moment b r m ok.0 ok.1 fits rules)
tried (moment b r m) ok rest bs = dite (dec_le m.length (length rest)) there (λ h. stops _ (missing (moment b r m) rest (omega arith)))
  where
    there : m.length ≤ length rest → Tried (moment b r m) rest
    there h =
        let x = part m.length rest 0 in
        let g = drop (0 + m.length) rest in
        let n = next-data b r m x ok.0 ok.1 ok.2 ok.3 (length_part m.length rest 0) in
        let o = n.other in
        let e : rest ≡ x ++ g = cut-here rest 0 m.length (omega arith) in
        let l : length rest ≡ length x + length g = ap length e ∙ length-append x g in
        goes x g e (length_part m.length rest 0) tt (drop-bytes rest (0 + m.length) (omega arith) bs) n (omega arith)
tried (volume v) ok [] bs = stops _ (complete v)
tried (volume v) ok (x ∷ xs) bs = stops _ (follow v x xs)

-- ---- block by block

parsed : (n : ℕ) (f : List ℕ) (a : Accepted) → AcceptedOk a → (rest : List ℕ) → Bytes rest → bytes_of_accepted a ++ rest ≡ f → tag a + (length rest + length rest) < n → Accepts f
parsed zero f a ok rest bs e h = absurd (omega arith)
parsed (suc n) f a ok rest bs e h = go (tried a ok rest bs) (parsed n f)
  where
    go : Tried a rest → ((a : Accepted) → AcceptedOk a → (rest : List ℕ) → Bytes rest → bytes_of_accepted a ++ rest ≡ f → tag a + (length rest + length rest) < n → Accepts f) → Accepts f
    go (stops x says) later = record { accepted = a; is = ok; rest = rest; bytes = e; verdict = x; says = says; told = subst (λ (l : List ℕ). Told l a x) e (tells a rest x ok says) }
    go (goes x g d l rules gs next less) later =
        later next.accepted next.is g gs
        (ap (λ (l : List ℕ). l ++ g) next.bytes ∙ append_assoc (bytes_of_accepted a) x g ∙ ap (λ (l : List ℕ). bytes_of_accepted a ++ l) (sym d) ∙ e)
        (omega arith)

pub accepts : (f : List ℕ) → Bytes f → Accepts f
accepts f bs = parsed (suc (length f + length f)) f nothing tt f bs refl (omega arith)

-- a complete file is a volume's bytes
pub holds : (f : List ℕ) → Bytes f → plain_told f ≡ 0 ∷ [] → Holds f
holds f bs c = let a = accepts f bs in go a.accepted a.rest a.verdict a.is a.bytes a.says (sym a.told.verdict ∙ c)
  where
    go : (a : Accepted) (rest x : List ℕ) → AcceptedOk a → bytes_of_accepted a ++ rest ≡ f → Says a rest x → x ≡ 0 ∷ [] → Holds f
    go a rest x ok e (complete v) c = record { volume = v; is = ok; bytes = sym (append-nil (bytes_of_volume v)) ∙ e }
    go a rest x ok e (follow v y ys) c = absurd (let z : ◌≡◌ {A = ℕ} 0 1 = cc in omega arith)
    go a rest x ok e (missing b q h) c = absurd (let z : ◌≡◌ {A = ℕ} 0 1 = cc in omega arith)
    go a rest x ok e (broken b q l h k) c = absurd (let z : ◌≡◌ {A = ℕ} 0 1 = cc in omega arith)
