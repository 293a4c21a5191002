-- Growth of what is cited: the statement of specs/Growth, for every A and C. Assumes nothing.
use Prim.Native.Nat.{ℕ, ◌+◌, ◌-◌, ◌*◌, ◌≤◌, ◌<◌}
use native.Mathlib.Omega.{arith}
use mathlib.Core.Bool.{true, false}
use mathlib.Core.List.{List, [], ◌∷◌, ◌++◌}
use mathlib.Core.Path.{◌≡◌, refl, sym, ap, ap₂, subst, ◌∙◌}
use lib.Dec.{lit<}
use lib.ListN.{length, length-append}
use Rattle.le.specs.Le.{le}
use Rattle.le.proofs.Laws.{le-own, part_in}
use Rattle.rules.specs.Check.{Check}
use Rattle.std.specs.Prelude.{Ok, Err, Option, Some, None}
use Rattle.rules.specs.declared.check.Clause.{Clause}
use Rattle.rules.specs.Check.{Rule, First, here, behind, verdict}
use Rattle.rules.proofs.Judged.{decided-first}
use Rattle.cut.specs.Cut.{cut_of, cut_at, cut_rules}
use Rattle.generic.specs.Generic.{generic_of, generic_at, generic_rules}
use Rattle.moment.specs.Moment.{moment_of, moment_at, moment_rules}
use Rattle.radial.specs.Radial.{radial_of, radial_at, radial_rules}
use Rattle.site.specs.Site.{site_of, site_at, site_rules}
use Rattle.task.specs.Task.{task_of, task_at, task_rules}
use Rattle.walk.specs.declared.due.Due.{Due}
use Rattle.walk.specs.declared.due.Due.TheVariants as due
use Rattle.walk.specs.declared.due.Walk.{Walk}
use Rattle.walk.specs.Due.{at_start, is_end, moment_due, radial_due, size_at, size_of}
use Rattle.walk.specs.After.{after_data}
use Rattle.gates.specs.Codes.{width_of}
use Rattle.moments.specs.Moments.{find_in, moments_of}
use Rattle.reading.specs.declared.Stretch.{Stretch}
use Rattle.reading.specs.declared.step.Step.TheVariants.{Took, Refused}
use Rattle.reading.specs.Exactly.{rules_of}
use Rattle.reading.specs.Growth.{Same}
use Rattle.reading.specs.Step.{take_generic, take_site, take_task, take_cut, take_radial, take_moment, take_data, block_at}
use Rattle.reading.specs.Reading.{bytes_of, fuel, stop, stretches, nth, told, ending}
use Rattle.reading.proofs.Closing.{closed}
use Rattle.reading.proofs.Exactly.{step-of}
use Rattle.reading.proofs.Grown.{grows}
use Rattle.reading.proofs.Growing.{keeps-refused, rests}
use Rattle.reading.proofs.Run.{View, view, due-either, last-holds, settle-took, Stays, taken, took-inj}
use Rattle.reading.proofs.Run as run
use Rattle.ask.proofs.Growing.{nth-kept, nth_of, nth-placed}
use Rattle.citing.specs.declared.Field.{Field}
use Rattle.citing.specs.declared.answers.WhyGate.TheVariants as gate
use Rattle.citing.specs.declared.refusals.Block.{Block}
use Rattle.citing.specs.declared.refusals.Why.TheVariants as why
use Rattle.citing.specs.Answers.{cited_at, gates_at, width_at, why_gate}
use Rattle.citing.specs.Fields.{field_at}
use Rattle.citing.specs.Growth.{CitesGrow}
use Rattle.citing.specs.Refusals.{block_due, by_rules, refusal_of, trailing_clause, why_at, why_of}
use Rattle.citing.proofs.Alone.{Ways, no-radial, no-moment, no-gate, gate, ways, cites-place, cites-gates, cites-fields, in-header, code-there}
use Rattle.citing.proofs.Grounds.{last-is}
use Rattle.citing.proofs.Stops.{cites-told}
use Rattle.citing.proofs.Whys.{why-over, why-done, why-short, why-here, over-is, closing-place, due-place}

-- ---- a field that lies in A

le_in : (n : ℕ) (A C : List ℕ) (at : ℕ) → at + n ≤ length A → le n (A ++ C) at ≡ le n A at
le_in n A C at h = sym (le-own n (A ++ C) at) ∙ ap (λ (l : List ℕ). le n l 0) (part_in n A C at h) ∙ le-own n A at

field_in : (A C : List ℕ) (place size : ℕ) → place + size ≤ length A → field_at (A ++ C) place size ≡ field_at A place size
field_in A C place size h = ap (λ (n : ℕ). record { place = place; size = size; found = n }) (le_in size A C place h)

-- each rule's field lies in its block
abbrev Inside : ℕ → List Rule → Type 0
Inside size [] = Unit {0}
Inside size (r ∷ rs) = (r.place + r.size ≤ size) × Inside size rs

first-inside : {size : ℕ} {rs : List Rule} {c : Clause} → First rs c → Inside size rs → c.place + c.size ≤ size
first-inside (here r rs k e) h = h.0
first-inside (behind r rs e f) h = first-inside f h.1

rules-inside : (d : Due) (f : List ℕ) (w : Walk) → Inside (size_at d w.rest.length) (rules_of d f w)
unfolding rules_of size_at
rules-inside due.Generic f w = (lit< tt, (lit< tt, tt))
rules-inside due.Site f w = (lit< tt, (lit< tt, tt))
rules-inside due.Task f w = (lit< tt, (lit< tt, (lit< tt, (lit< tt, tt))))
rules-inside due.Cut f w = (lit< tt, (lit< tt, (lit< tt, (lit< tt, (lit< tt, (lit< tt, tt))))))
rules-inside due.Radial f w = (lit< tt, (lit< tt, (lit< tt, (lit< tt, (lit< tt, (lit< tt, (lit< tt, (lit< tt, (lit< tt, (lit< tt, (lit< tt, tt)))))))))))
rules-inside due.Moment f w = (lit< tt, (lit< tt, (lit< tt, (lit< tt, (lit< tt, tt)))))
rules-inside due.Data f w = tt
rules-inside due.Nothing f w = tt

-- ---- a block that lies in A

rules-in : (d : Due) (A C : List ℕ) (w : Walk) → w.at + size_at d w.rest.length ≤ length A → rules_of d (A ++ C) w ≡ rules_of d A w
unfolding rules_of size_at generic_at site_at task_at cut_at radial_at moment_at
rules-in due.Generic A C w h = ap (λ (l : List ℕ). generic_rules (generic_of l)) (part_in 32 A C w.at h)
rules-in due.Site A C w h = ap (λ (l : List ℕ). site_rules (site_of l)) (part_in 128 A C w.at h)
rules-in due.Task A C w h = ap (λ (l : List ℕ). task_rules (task_of l)) (part_in 256 A C w.at h)
rules-in due.Cut A C w h = ap (λ (l : List ℕ). cut_rules (cut_of l)) (part_in 256 A C w.at h)
rules-in due.Radial A C w h = ap (λ (l : List ℕ). radial_rules (radial_of l) (radial_due w)) (part_in 64 A C w.at h)
rules-in due.Moment A C w h = ap (λ (l : List ℕ). moment_rules (moment_of l) (moment_due w)) (part_in 32 A C w.at h)
rules-in due.Data A C w h = refl
rules-in due.Nothing A C w h = refl

-- behind a radial header that header is there
unfoldable Headed : Due → Walk → Type 0
Headed due.Generic w = Unit {0}
Headed due.Site w = Unit {0}
Headed due.Task w = Unit {0}
Headed due.Cut w = Unit {0}
Headed due.Radial w = Unit {0}
Headed due.Moment w = w.present.start + 64 ≤ w.at
Headed due.Data w = w.present.start + 64 ≤ w.at
Headed due.Nothing w = Unit {0}

headed-on : (d : Due) (p : List ℕ) (w m : Walk) → Headed d w → block_at d p w ≡ Took m → Headed m.due m
unfolding block_at take_generic take_site take_task take_cut take_radial take_moment take_data after_data Headed
headed-on due.Generic p w m h e = subst (λ (x : Walk). Headed x.due x) (settle-took _ _ _ m e) tt
headed-on due.Site p w m h e = subst (λ (x : Walk). Headed x.due x) (settle-took _ _ _ m e) tt
headed-on due.Task p w m h e = subst (λ (x : Walk). Headed x.due x) (settle-took _ _ _ m e) tt
headed-on due.Cut p w m h e = subst (λ (x : Walk). Headed x.due x) (settle-took _ _ _ m e) (due-either Headed _ due.Radial due.Cut _ tt tt)
headed-on due.Radial p w m h e = subst (λ (x : Walk). Headed x.due x) (settle-took _ _ _ m e) (omega arith)
headed-on due.Moment p w m h e = subst (λ (x : Walk). Headed x.due x) (settle-took _ _ _ m e) (omega arith)
headed-on due.Data p w m h e = subst (λ (x : Walk). Headed x.due x) (took-inj _ m e) (due-either Headed _ due.Moment _ _ (omega arith) (due-either Headed _ due.Nothing due.Radial _ tt tt))
headed-on due.Nothing p w m h e = absurd (let z : ◌≡◌ {A = ℕ} 0 1 = cc in omega arith)

headed : (f : List ℕ) → Headed (stop f).due (stop f)
unfolding Headed
headed f = last-holds true f (λ v. Headed v.due v) (λ v m e h. headed-on v.due _ v m h (taken f v m e).block) (fuel f) at_start tt

block_in : (d : Due) (A C : List ℕ) (w : Walk) → w.at + size_at d w.rest.length ≤ length A → Headed d w → block_due d (A ++ C) w ≡ block_due d A w
unfolding block_due size_at radial_at Headed
block_in due.Generic A C w h g = refl
block_in due.Site A C w h g = refl
block_in due.Task A C w h g = refl
block_in due.Cut A C w h g = refl
block_in due.Radial A C w h g = refl
block_in due.Moment A C w h g = ap (λ (l : List ℕ). record { kind = due.Moment; number = w.count.whole + 1; moment = (radial_of l).moment_number - w.rest.todo + 1; place = w.at }) (part_in 64 A C w.present.start (omega arith))
block_in due.Data A C w h g = refl
block_in due.Nothing A C w h g = refl

-- ---- a refused file

-- what the rules of a block in A say is said in A ++ C
said_in : (A C : List ℕ) (w : Walk) (v : Check) → is_end w.due ≡ false → w.at + size_of w ≤ length A → Headed w.due w → verdict (rules_of w.due A w) ≡ v → by_rules (A ++ C) w v ≡ by_rules A w v
unfolding by_rules
said_in A C w (Ok tt) i h g e = ap why.Hopeless (block_in w.due A C w h g)
said_in A C w (Err c) i h g e =
    let l = first-inside (decided-first (rules_of w.due A w) c e) (rules-inside w.due A w) in
    let p = due-place A w i in
    let b = block_in w.due A C w h g in
    ap₂ (λ (b : Block) (x : Field). why.Broken (record { place = w.at + c.place; clause = c; block = b; field = x })) b
    (ap (λ (x : Block). field_at (A ++ C) (x.place + c.place) c.size) b ∙ field_in A C ((block_due w.due A w).place + c.place) c.size (omega arith))

-- once a volume is over, the block that is cited is the same in every file
over-same : (A C : List ℕ) (w : Walk) (d : Due) → d ≡ due.Nothing → block_due d (A ++ C) w ≡ block_due d A w
unfolding block_due
over-same A C w d e = rw e

-- the closing radial's state lies in A
state-in : (A : List ℕ) → is_end (stop A).due ≡ true → (stop A).at < length A → (stop A).present.start + 4 ≤ length A
state-in A i h =
    let x = closed A (over-is (stop A).due i) in
    let e = x.end in
    let s = x.start in
    let p = nth-placed A (length (stretches A)) x.last (ap (λ (ss : List Stretch). nth ss (length ss)) x.all ∙ last-is x.before x.last) in
    let a = p.header in
    omega arith

why-in : (A C : List ℕ) (n p : ℕ) → told A ≡ 2 ∷ n ∷ p ∷ [] → why_at (A ++ C) (stop A) ≡ why_at A (stop A)
why-in A C n p t = go (view A (stop A))
  where
    w : Walk
    w = stop A

    l : length (A ++ C) ≡ length A + length C
    l = length-append A C

    go : View A (stop A) → why_at (A ++ C) (stop A) ≡ why_at A (stop A)
    go (run.over i h) =
        let d = over-is (stop A).due i in
        let b : block_due (stop A).due (A ++ C) (stop A) ≡ block_due (stop A).due A (stop A) = over-same A C (stop A) (stop A).due d in
        let q = closing-place A (stop A) i in
        let s = state-in A i h in
        why-over (A ++ C) (stop A) i (let k = l in omega arith)
        ∙ ap₂ (λ (b : Block) (x : Field). why.Broken (record { place = (stop A).at; clause = trailing_clause; block = b; field = x })) b
        (ap (λ (x : Block). field_at (A ++ C) (x.place + 0) 4) b ∙ field_in A C ((block_due (stop A).due A (stop A)).place + 0) 4 (omega arith))
        ∙ sym (why-over A (stop A) i h)
    go (run.done i h) = let k : refusal_of (why_of A) ≡ 0 ∷ [] = ap refusal_of (why-done A (stop A) i h) in let c = cites-told A in absurd (let z : ◌≡◌ {A = ℕ} 0 2 = cc in omega arith)
    go (run.short i h) = let k : refusal_of (why_of A) ≡ 1 ∷ _ ∷ [] = ap refusal_of (why-short A (stop A) i h) in let c = cites-told A in absurd (let z : ◌≡◌ {A = ℕ} 1 2 = cc in omega arith)
    go (run.here i h) =
        why-here (A ++ C) (stop A) i (let k = l in omega arith)
        ∙ ap (λ (rs : List Rule). by_rules (A ++ C) (stop A) (verdict rs)) (rules-in (stop A).due A C (stop A) h)
        ∙ said_in A C (stop A) (verdict (rules_of (stop A).due A (stop A))) i h (headed A) refl
        ∙ sym (why-here A (stop A) i h)

refused : (A C : List ℕ) (n p : ℕ) → told A ≡ 2 ∷ n ∷ p ∷ [] → why_of (A ++ C) ≡ why_of A
unfolding Stays
refused A C n p t =
    let s = step-of (ending A) n p t in
    ap (why_at (A ++ C)) (rests A C (Refused n p) tt (keeps-refused A C (stop A) n p s)).at ∙ why-in A C n p t

-- ---- a gate of a radial that is whole in A

cited-in : (A C : List ℕ) (m i : ℕ) → m + 32 ≤ length A → m + 32 + width_at A m * i + width_at A m ≤ length A → cited_at (A ++ C) m i ≡ cited_at A m i
unfolding cited_at
cited-in A C m i h k =
    let b = le_in 2 A C (m + 12) (omega arith) in
    λ j. record {
      data_type = field_in A C m 4 (omega arith) j;
      scale = field_in A C (m + 4) 4 (omega arith) j;
      offset = field_in A C (m + 8) 4 (omega arith) j;
      bin_length = field_in A C (m + 12) 2 (omega arith) j;
      code = (ap (λ (x : ℕ). field_at (A ++ C) (m + 32 + width_of x * i) (width_of x)) b ∙ field_in A C (m + 32 + width_at A m * i) (width_at A m) k) j;
    }

module _ (A C : List ℕ) (some : 0 < length C) (n : ℕ) (s : Stretch) (here : nth (stretches A) n ≡ Some s) (t i : ℕ) where
  there : nth (stretches (A ++ C)) n ≡ Some s
  there = let g = grows A C some in ap (λ (l : List Stretch). nth l n) g.radials ∙ nth-kept (stretches A) g.later n s here

  bytes : bytes_of (A ++ C) s ≡ bytes_of A s
  bytes = nth_of (Same A (A ++ C)) (λ x. bytes_of (A ++ C) x ≡ bytes_of A x) (λ x l h. h) (stretches A) n s (grows A C some).bytes here

  found-same : (v : Option ℕ) → find_in (bytes_of A s) t (moments_of (bytes_of A s)) ≡ v → find_in (bytes_of (A ++ C) s) t (moments_of (bytes_of (A ++ C) s)) ≡ v
  found-same v e = ap (λ (b : List ℕ). find_in b t (moments_of b)) bytes ∙ e

  gates-same : (p : ℕ) → gates_at (bytes_of (A ++ C) s) p ≡ gates_at (bytes_of A s) p
  gates-same p = ap (λ (b : List ℕ). gates_at b p) bytes

  one : (x : Stretch) → nth (stretches A) n ≡ Some x → x ≡ s
  one x e = cc

  whole : Ways A n t i → why_gate (A ++ C) n t i ≡ why_gate A n t i
  whole (no-radial r) = absurd (let z : ◌≡◌ {A = ℕ} 0 1 = cc in omega arith)
  whole (no-moment x r m) =
      let e = one x r in
      let q : find_in (bytes_of A s) t (moments_of (bytes_of A s)) ≡ None = subst (λ (y : Stretch). find_in (bytes_of A y) t (moments_of (bytes_of A y)) ≡ None) e m in
      cites-place (A ++ C) n t i s there (found-same _ q) ∙ sym (cites-place A n t i s here q)
  whole (no-gate x p r m g) =
      let e = one x r in
      let q : find_in (bytes_of A s) t (moments_of (bytes_of A s)) ≡ Some p = subst (λ (y : Stretch). find_in (bytes_of A y) t (moments_of (bytes_of A y)) ≡ Some p) e m in
      let h : gates_at (bytes_of A s) p ≤ i = subst (λ (y : Stretch). gates_at (bytes_of A y) p ≤ i) e g in
      let k = gates-same p in
      cites-gates (A ++ C) n t i s p there (found-same _ q) (omega arith) ∙ ap gate.NoGate k ∙ sym (cites-gates A n t i s p here q h)
  whole (gate x p r m g) =
      let e = one x r in
      let q : find_in (bytes_of A s) t (moments_of (bytes_of A s)) ≡ Some p = subst (λ (y : Stretch). find_in (bytes_of A y) t (moments_of (bytes_of A y)) ≡ Some p) e m in
      let h : i < gates_at (bytes_of A s) p = subst (λ (y : Stretch). i < gates_at (bytes_of A y) p) e g in
      let k = gates-same p in
      cites-fields (A ++ C) n t i s p there (found-same _ q) (omega arith)
      ∙ ap gate.Answered (cited-in A C (s.start + p) i (in-header A n t i s p here q h) (code-there A n t i s p here q h))
      ∙ sym (cites-fields A n t i s p here q h)

pub cites-grow : (A C : List ℕ) → 0 < length C → CitesGrow A C
cites-grow A C some = record { refused = refused A C; whole = λ n s here t i. whole A C some n s here t i (ways A n t i) }
