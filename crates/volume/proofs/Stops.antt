-- Where reading stops: behind accepted blocks, the bytes that follow say what is told. Assumes nothing.
use Prim.Native.Nat.{ℕ, ◌+◌, ◌-◌, ◌≤◌}
use native.Mathlib.Omega.{arith}
use mathlib.Core.Path.{◌≡◌, refl, sym, ap, subst, ◌∙◌}
use mathlib.Core.Bool.{false}
use mathlib.Core.List.{List, [], ◌∷◌}
use lib.ListN.{length, take, length-drop}
use Rattle.le.specs.Le.{part}
use Rattle.le.proofs.Laws.{part-take, part-drop}
use Rattle.le.proofs.Here.{At}
use Rattle.rules.specs.declared.check.Clause.{Clause}
use Rattle.rules.specs.Check.{First}
use Rattle.rules.proofs.Judged.{held_first}
use Rattle.walk.specs.declared.due.Walk.{Walk}
use Rattle.walk.specs.declared.due.Due.TheVariants as due
use Rattle.walk.specs.Due.{is_end, size_of, radial_due, moment_due}
use Rattle.reading.specs.declared.step.Step.{Step}
use Rattle.reading.specs.declared.step.Step.TheVariants.{Open, Refused, Complete}
use Rattle.reading.specs.Step.{plain_step}
use Rattle.reading.specs.Reading.{ending_told}
use Rattle.reading.proofs.Run.{Stays, is-short, is-over, is-done}
use Rattle.volume.specs.Volume.{Volume, bytes_of_volume}
use Rattle.volume.specs.Accepted.{Accepted, nothing, generic, site, task, radials, radial, moment, volume, volume_of, bytes_of_accepted, due_radial, due_moment, due_size, due_rules, Says, complete, follow, missing, broken}
use Rattle.volume.proofs.Runs.{Finishes, Ends, at-stop}

-- the walk that stands behind accepted blocks: which block is due; of a cut which one; what a radial or a moment is judged against, where
-- the moment's radial stands and behind how many; how long data is
abbrev pub Behind : Accepted → Walk → Type 0
Behind nothing w = w.due ≡ due.Generic
Behind (generic g) w = w.due ≡ due.Site
Behind (site g s) w = w.due ≡ due.Task
Behind (task g s t cs) w = (w.due ≡ due.Cut) × (w.plan.cuts ≡ t.cut_number) × (w.rest.todo ≡ t.cut_number - length cs)
Behind (radials b) w = (w.due ≡ due.Radial) × (radial_due w ≡ due_radial b)
Behind (radial b r) w = (w.due ≡ due.Moment) × (moment_due w ≡ due_moment b r) × (w.present.start ≡ length (bytes_of_volume (volume_of b))) × (w.count.whole ≡ (due_radial b).before)
Behind (moment b r m) w = (w.due ≡ due.Data) × (w.rest.length ≡ m.length)
Behind (volume v) w = w.due ≡ due.Nothing

-- some block is due
abbrev Going : Accepted → Type 0
Going nothing = Unit {0}
Going (generic g) = Unit {0}
Going (site g s) = Unit {0}
Going (task g s t cs) = Unit {0}
Going (radials b) = Unit {0}
Going (radial b r) = Unit {0}
Going (moment b r m) = Unit {0}
Going (volume v) = ⊥

pub none_first : (c : Clause) → First [] c → ⊥
none_first c k = held_first k tt

-- what stands in the due block's bytes stands at the front of those that follow
pub front : (n : ℕ) (f : List ℕ) (at : ℕ) (rest : List ℕ) → At f at rest → part n (take (at + n) f) at ≡ part n rest 0
front n f at rest a =
    let z : at ≡ at + 0 = omega arith in
    part-take n f at (at + n) (omega arith) ∙ ap (part n f) z ∙ sym (part-drop n at f 0) ∙ ap (λ (l : List ℕ). part n l 0) a.rest

-- x is told behind the accepted blocks, at the walk that stands behind them
abbrev pub Stops : Accepted → List ℕ → List ℕ → Walk → Type 0
Stops a f x w = Ends f x (length (bytes_of_accepted a)) w × Behind a w

stop-as : (f : List ℕ) (a : Accepted) (w : Walk) (s : Step) (x : List ℕ) → Stays s → plain_step f w ≡ s → ending_told s ≡ x → w.at ≡ length (bytes_of_accepted a) → Behind a w → Finishes f (Stops a f x) w []
stop-as f a w s x h e t p b =
    subst (λ (n : ℕ). Finishes f (λ v. Ends f x n v × Behind a v) w []) p (subst (λ (y : List ℕ). Finishes f (λ v. Ends f y w.at v × Behind a v) w []) t (at-stop f (Behind a) w s h e b))

left_over : (f : List ℕ) (at : ℕ) (rest : List ℕ) → At f at rest → length f ≡ at + length rest
left_over f at rest a = let h = a.within in let l : length f - at ≡ length rest = sym (length-drop at f) ∙ ap length a.rest in omega arith

-- a block is due
pub stop-before : (a : Accepted) (f : List ℕ) (rest x : List ℕ) (w : Walk) → Going a → Behind a w → is_end w.due ≡ false → size_of w ≡ due_size a → At f w.at rest → w.at ≡ length (bytes_of_accepted a)
    → ((c : Clause) → w.at + size_of w ≤ length f → First (due_rules a rest) c → plain_step f w ≡ Refused c.number (w.at + c.place)) → Says a rest x → Finishes f (Stops a f x) w []
unfolding Stays ending_told
stop-before a f rest x w g d i s r e refuses (complete v) = absurd g
stop-before a f rest x w g d i s r e refuses (follow v y ys) = absurd g
stop-before a f rest x w g d i s r e refuses (missing b q h) =
    let l = left_over f w.at q r in
    let m : w.at + size_of w - length f ≡ due_size b - length q = omega arith in
    stop-as f b w (Open (w.at + size_of w - length f)) _ tt (is-short false f w i (omega arith)) (ap (λ (n : ℕ). 1 ∷ n ∷ []) m) e d
stop-before a f rest x w g d i s r e refuses (broken b q c h k) =
    let l = left_over f w.at q r in
    stop-as f b w (Refused c.number (w.at + c.place)) _ tt (refuses c (omega arith) k) (ap (λ (m : ℕ). 2 ∷ c.number ∷ (m + c.place) ∷ []) e) e d

-- a volume is over
pub stop-behind : (v : Volume) (f : List ℕ) (rest x : List ℕ) (w : Walk) → w.due ≡ due.Nothing → At f w.at rest → w.at ≡ length (bytes_of_volume v) → Says (volume v) rest x
    → Finishes f (Stops (volume v) f x) w []
unfolding Stays ending_told is_end
stop-behind v f rest x w i r e (complete u) = let l = left_over f w.at [] r in stop-as f (volume u) w Complete _ tt (is-done false f w (ap is_end i) (omega arith)) refl e i
stop-behind v f rest x w i r e (follow u y ys) =
    let l = left_over f w.at (y ∷ ys) r in
    stop-as f (volume u) w (Refused 25 w.at) _ tt (is-over false f w (ap is_end i) (omega arith)) (ap (λ (m : ℕ). 2 ∷ 25 ∷ m ∷ []) e) e i
stop-behind v f rest x w i r e (missing b q h) = absurd (omega arith)
stop-behind v f rest x w i r e (broken b q c h k) = absurd (none_first c k)
