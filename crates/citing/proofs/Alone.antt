-- The cited bytes alone give a gate's answer: specs/Alone, of every file and question. Assumes nothing.
use Prim.Native.Nat.{ℕ, ◌+◌, ◌*◌, ◌%◌, ◌^◌, ◌≤◌, ◌<◌}
use native.Mathlib.Nat.{mod-eq_of_lt, mul_comm}
use native.Mathlib.Decide.{dec_lt}
use native.Mathlib.Omega.{arith}
use mathlib.Core.List.{List}
use mathlib.Core.Logic.{dite, ◌⊎◌, inl, inr, ◌↔◌}
use mathlib.Core.Path.{◌≡◌, refl, sym, ap, ap₂, subst, ◌∙◌}
use lib.ListN.{length, take, drop, get_or, length-take, length-drop}
use borrow.Author.Tests.{lt-ltb, le-ltb}
use Rattle.std.specs.Prelude.{Option, Some, None}
use Rattle.le.specs.Le.{le, part, Bytes}
use Rattle.le.proofs.Laws.{le-lt, le-own, le-part, length_part, part-here, part-take, part-drop}
use Rattle.gates.specs.declared.Coding.{Coding}
use Rattle.gates.specs.Codes.{codes_of, gates_in, width_of}
use Rattle.gates.specs.Gates.{Values, told_of, values_of}
use Rattle.gates.specs.Telling.{Telling, refused, answered}
use Rattle.gates.proofs.Codes.{code_is}
use Rattle.moment.specs.declared.Moment.{Moment}
use Rattle.moment.specs.Moment.{moment_at, moment_of}
use Rattle.moments.specs.Moments.{data_at, find_in, moments_of}
use Rattle.moments.proofs.Laws.{all-within, found}
use Rattle.reading.specs.declared.Stretch.{Stretch}
use Rattle.reading.specs.Reading.{stretches, nth, bytes_of}
use Rattle.reading.proofs.Radials.{in-file}
use Rattle.ask.specs.declared.places.Where.TheVariants.{At}
use Rattle.ask.specs.Answers.{coding_of, gate_in, gate_told, radial_told, radial_of_file}
use Rattle.ask.specs.Growth.{gate_asked}
use Rattle.ask.specs.Places.{in_found, where_is}
use Rattle.ask.specs.Places as places
use Rattle.ask.specs.Sound.{Sound}
use Rattle.ask.proofs.Growing.{nth-placed}
use Rattle.ask.proofs.Sounding.{own-long, own-moment, own-part, sound}
use Rattle.citing.specs.declared.answers.GateCited.{GateCited}
use Rattle.citing.specs.declared.answers.WhyGate.TheVariants as why
use Rattle.citing.specs.Fields.{field_at, number_of}
use Rattle.citing.specs.Answers.{answer_of, cited_at, gates_at, in_moment, in_radial, told_why_gate, width_at, why_gate}
use Rattle.citing.specs.Alone.{formula, by_formula, SameBytes, Stands, Alone, Because}

-- ---- the four ways in which a question can go

pub data Ways (f : List ℕ) (n t i : ℕ) : Type 0 where
  no-radial : nth (stretches f) n ≡ None → Ways f n t i
  no-moment : (s : Stretch) → nth (stretches f) n ≡ Some s → find_in (bytes_of f s) t (moments_of (bytes_of f s)) ≡ None → Ways f n t i
  no-gate : (s : Stretch) (p : ℕ) → nth (stretches f) n ≡ Some s → find_in (bytes_of f s) t (moments_of (bytes_of f s)) ≡ Some p → gates_at (bytes_of f s) p ≤ i → Ways f n t i
  gate : (s : Stretch) (p : ℕ) → nth (stretches f) n ≡ Some s → find_in (bytes_of f s) t (moments_of (bytes_of f s)) ≡ Some p → i < gates_at (bytes_of f s) p → Ways f n t i

pub ways : (f : List ℕ) (n t i : ℕ) → Ways f n t i
ways f n t i = in-radial (nth (stretches f) n) refl
  where
    in-moment : (s : Stretch) (v : Option ℕ) → nth (stretches f) n ≡ Some s → find_in (bytes_of f s) t (moments_of (bytes_of f s)) ≡ v → Ways f n t i
    in-moment s None r m = no-moment s r m
    in-moment s (Some p) r m = dite (dec_lt i (gates_at (bytes_of f s) p)) (λ h. gate s p r m h) (λ h. no-gate s p r m (omega arith))

    in-radial : (v : Option Stretch) → nth (stretches f) n ≡ v → Ways f n t i
    in-radial None r = no-radial r
    in-radial (Some s) r = in-moment s (find_in (bytes_of f s) t (moments_of (bytes_of f s))) r refl

-- what is cited on each
module _ (f : List ℕ) (n t i : ℕ) where
  pub cites-count : nth (stretches f) n ≡ None → why_gate f n t i ≡ why.NoRadial (length (stretches f))
  unfolding in_radial
  cites-count r = rw r

  pub cites-place : (s : Stretch) → nth (stretches f) n ≡ Some s → find_in (bytes_of f s) t (moments_of (bytes_of f s)) ≡ None → why_gate f n t i ≡ why.NoMoment s.start
  unfolding in_radial in_moment
  cites-place s r m = rw (r, m)

  pub cites-gates : (s : Stretch) (p : ℕ) → nth (stretches f) n ≡ Some s → find_in (bytes_of f s) t (moments_of (bytes_of f s)) ≡ Some p → gates_at (bytes_of f s) p ≤ i
      → why_gate f n t i ≡ why.NoGate (gates_at (bytes_of f s) p)
  unfolding in_radial in_moment
  cites-gates s p r m g = rw (r, m, le-ltb i (gates_at (bytes_of f s) p) g)

  pub cites-fields : (s : Stretch) (p : ℕ) → nth (stretches f) n ≡ Some s → find_in (bytes_of f s) t (moments_of (bytes_of f s)) ≡ Some p → i < gates_at (bytes_of f s) p
      → why_gate f n t i ≡ why.Answered (cited_at f (s.start + p) i)
  unfolding in_radial in_moment
  cites-fields s p r m g = rw (r, m, lt-ltb i (gates_at (bytes_of f s) p) g)

-- where fields are cited, the radial is whole, the moment is found in its stretch and has the gate
record Cites (f : List ℕ) (n t i : ℕ) (c : GateCited) : Type 0 where
  stretch : Stretch
  place : ℕ
  radial : nth (stretches f) n ≡ Some stretch
  moment : find_in (bytes_of f stretch) t (moments_of (bytes_of f stretch)) ≡ Some place
  gate : i < gates_at (bytes_of f stretch) place
  is : c ≡ cited_at f (stretch.start + place) i

cites : (f : List ℕ) (n t i : ℕ) (c : GateCited) → why_gate f n t i ≡ why.Answered c → Cites f n t i c
cites f n t i c e = go (ways f n t i)
  where
    go : Ways f n t i → Cites f n t i c
    go (no-radial r) = let q = cites-count f n t i r in absurd (let z : ◌≡◌ {A = ℕ} 0 1 = cc in omega arith)
    go (no-moment s r m) = let q = cites-place f n t i s r m in absurd (let z : ◌≡◌ {A = ℕ} 0 1 = cc in omega arith)
    go (no-gate s p r m g) = let q = cites-gates f n t i s p r m g in absurd (let z : ◌≡◌ {A = ℕ} 0 1 = cc in omega arith)
    go (gate s p r m g) = let q = cites-fields f n t i s p r m g in record { stretch = s; place = p; radial = r; moment = m; gate = g; is = cc }

-- the question finds the same moment
where-is : (f : List ℕ) (n t : ℕ) (s : Stretch) (p : ℕ) → nth (stretches f) n ≡ Some s → find_in (bytes_of f s) t (moments_of (bytes_of f s)) ≡ Some p → where_is f n t ≡ At s p
unfolding in_found places.in_stretch
where-is f n t s p r m = rw (r, m)

-- ---- a field that is all there

stands : (f : List ℕ) (place size : ℕ) → place + size ≤ length f → Stands f (field_at f place size)
stands f place size h =
    let e = part-here size f place h in
    record { there = h; found = sym (ap number_of e ∙ ap (λ (k : ℕ). le k (part size f place) 0) (length_part size f place) ∙ le-own size f place) }

-- bytes that are all there fit
room : (l : List ℕ) (at k : ℕ) → at ≤ length l → length (take k (drop at l)) ≡ k → at + k ≤ length l
room l at k h e = omega (arith, simp (length-take, length-drop) at e)

-- ---- the moment in the file

module _ (f : List ℕ) (n t i : ℕ) (s : Stretch) (p : ℕ) (r : nth (stretches f) n ≡ Some s)
    (m : find_in (bytes_of f s) t (moments_of (bytes_of f s)) ≡ Some p) (g : i < gates_at (bytes_of f s) p) where
  abbrev b : List ℕ
  b = bytes_of f s

  abbrev header : ℕ
  header = s.start + p

  its : Sound b p
  its = sound f n t s p (where-is f n t s p r m)

  inside : p + 32 ≤ length b
  inside = all-within _ b 64 (found b t (moments_of b) p m).one

  same : moment_at b p ≡ moment_at f header
  same = let l = own-long f s (nth-placed f n s r) in let h = inside in own-moment f s (nth-placed f n s r) p (omega arith)

  its-type : (moment_at b p).data_type ≡ le 4 f header
  unfolding moment_at moment_of
  its-type = let e : header + 0 ≡ header = omega arith in ap (λ (h : Moment). h.data_type) same ∙ le-part 4 32 f header 0 (omega arith) ∙ ap (le 4 f) e

  its-scale : (moment_at b p).scale ≡ le 4 f (header + 4)
  unfolding moment_at moment_of
  its-scale = ap (λ (h : Moment). h.scale) same ∙ le-part 4 32 f header 4 (omega arith)

  its-offset : (moment_at b p).offset ≡ le 4 f (header + 8)
  unfolding moment_at moment_of
  its-offset = ap (λ (h : Moment). h.offset) same ∙ le-part 4 32 f header 8 (omega arith)

  its-bin : (moment_at b p).bin_length ≡ le 2 f (header + 12)
  unfolding moment_at moment_of
  its-bin = ap (λ (h : Moment). h.bin_length) same ∙ le-part 2 32 f header 12 (omega arith)

  abbrev width : ℕ
  width = width_at f header

  its-width : width_of (moment_at b p).bin_length ≡ width
  its-width = ap width_of its-bin

  -- its code lies in its data, and those in the stretch
  long : p + 32 + (moment_at b p).length ≤ length b
  unfolding data_at
  long = room b (p + 32) (moment_at b p).length inside its.bytes

  lies : p + 32 + (width * i + width) ≤ length b
  lies = go its.bin
    where
      go : ((moment_at b p).bin_length ≡ 1) ⊎ ((moment_at b p).bin_length ≡ 2) → p + 32 + (width * i + width) ≤ length b
      go (inl e) =
          let w : width ≡ 1 = sym its-width ∙ ap width_of e in
          let k = its.gates ∙ ap (gates_in (moment_at b p).length) e in
          let l = long in
          rw w (omega arith)
      go (inr e) =
          let w : width ≡ 2 = sym its-width ∙ ap width_of e in
          let k = its.gates ∙ ap (gates_in (moment_at b p).length) e in
          let l = long in
          rw w (omega arith)

  in-data : width * i + width ≤ (moment_at b p).length
  in-data = go its.bin
    where
      go : ((moment_at b p).bin_length ≡ 1) ⊎ ((moment_at b p).bin_length ≡ 2) → width * i + width ≤ (moment_at b p).length
      go (inl e) = let w : width ≡ 1 = sym its-width ∙ ap width_of e in let k = its.gates ∙ ap (gates_in (moment_at b p).length) e in rw w (omega arith)
      go (inr e) = let w : width ≡ 2 = sym its-width ∙ ap width_of e in let k = its.gates ∙ ap (gates_in (moment_at b p).length) e in rw w (omega arith)

  -- and is the number that stands at its place in the file
  its-code : get_or (codes_of (moment_at b p).bin_length (data_at b p)) i 0 ≡ le width f (header + 32 + width * i)
  unfolding data_at
  its-code =
      let k = (moment_at b p).length in
      let l = own-long f s (nth-placed f n s r) in
      let h = lies in
      let d = in-data in
      let at : s.start + (p + 32 + width * i) ≡ header + 32 + width * i = omega arith in
      code_is (moment_at b p).bin_length (data_at b p) i g
      ∙ ap (λ (w : ℕ). le w (data_at b p) (i * w)) its-width
      ∙ ap (le width (data_at b p)) (mul_comm i width)
      ∙ sym (le-own width (data_at b p) (width * i))
      ∙ ap (λ (x : List ℕ). le width x 0) (part-take width (drop (p + 32) b) (width * i) k d ∙ part-drop width (p + 32) b (width * i) ∙ own-part f s (nth-placed f n s r) width (p + 32 + width * i) (omega arith) ∙ ap (part width f) at)
      ∙ le-own width f (header + 32 + width * i)

  -- all of it lies in the file
  pub in-header : header + 32 ≤ length f
  in-header = let k = inside in let h = in-file f s (p + 32) (omega arith) k in omega arith

  pub code-there : header + 32 + width * i + width ≤ length f
  code-there = let k = lies in let h = in-file f s (p + 32 + (width * i + width)) (omega arith) k in omega arith

  -- the formula over the cited bytes
  abbrev cited : GateCited
  cited = cited_at f header i

  by-formula : by_formula f cited ≡ values_of (told_of (coding_of (moment_at b p)) (get_or (codes_of (moment_at b p).bin_length (data_at b p)) i 0))
  unfolding cited_at
  by-formula =
      let h = in-header in
      let t = (stands f header 4 (omega arith)).found in
      let c = (stands f (header + 4) 4 (omega arith)).found in
      let o = (stands f (header + 8) 4 (omega arith)).found in
      let l = (stands f (header + 12) 2 (omega arith)).found in
      let e = part-here width f (header + 32 + width * i) code-there in
      ap values_of (ap₂ told_of
      (λ j. record { data_type = (sym t ∙ sym its-type) j; scale = (sym c ∙ sym its-scale) j; offset = (sym o ∙ sym its-offset) j })
      (ap₂ (λ (w : ℕ) (x : List ℕ). le w x 0) (ap width_of (sym l)) e ∙ le-own width f (header + 32 + width * i))
      ∙ ap₂ told_of (sym its.coding) (sym its-code))

  answers : gate_asked f n t i ≡ answered (by_formula f cited)
  unfolding gate_told gate_in
  answers = rw (where-is f n t s p r m, lt-ltb _ _ g) (ap answered (sym by-formula))

  in-numbers : Bytes f → values_of (answer_of cited) ≡ by_formula f cited
  unfolding cited_at
  in-numbers bs =
      let sc = its.scale.1 in
      let of = its.offset in
      let es = its-scale in
      let eo = its-offset in
      let ws : le 4 f (header + 4) % 65536 ≡ le 4 f (header + 4) = mod-eq_of_lt (omega arith) in
      let wo : le 4 f (header + 8) % 65536 ≡ le 4 f (header + 8) = mod-eq_of_lt (omega arith) in
      let wc : le width f (header + 32 + width * i) % 65536 ≡ le width f (header + 32 + width * i) = mod-eq_of_lt (small its.bin) in
      ap values_of (ap₂ told_of (λ j. record { data_type = sym its-type j; scale = (ws ∙ sym its-scale) j; offset = (wo ∙ sym its-offset) j }) (wc ∙ sym its-code) ∙ ap (λ (c : Coding). told_of c (get_or (codes_of (moment_at b p).bin_length (data_at b p)) i 0)) (sym its.coding))
      ∙ sym by-formula
    where
      small : ((moment_at b p).bin_length ≡ 1) ⊎ ((moment_at b p).bin_length ≡ 2) → le width f (header + 32 + width * i) < 65536
      small (inl e) = let w : width ≡ 1 = sym its-width ∙ ap width_of e in let l = le-lt width f (header + 32 + width * i) bs in let q : 256 ^ width ≡ 256 = rw w in omega arith
      small (inr e) = let w : width ≡ 2 = sym its-width ∙ ap width_of e in let l = le-lt width f (header + 32 + width * i) bs in let q : 256 ^ width ≡ 65536 = rw w in omega arith

-- ---- the statement

-- the same bytes give the same by the formula
pub same-formula : (f : List ℕ) (c : GateCited) (g : List ℕ) (d : GateCited) → SameBytes f c g d → by_formula g d ≡ by_formula f c
same-formula f c g d e =
    λ j. formula (e.data_type j) (e.scale j) (e.offset j) (e.bin_length j) (e.code j)

pub answered-so : (f : List ℕ) (n t i : ℕ) (c : GateCited) → why_gate f n t i ≡ why.Answered c → gate_asked f n t i ≡ answered (by_formula f c)
answered-so f n t i c e =
    let x = cites f n t i c e in
    answers f n t i x.stretch x.place x.radial x.moment x.gate ∙ ap (λ (d : GateCited). answered (by_formula f d)) (sym x.is)

alone : (f : List ℕ) (n t i : ℕ) (c : GateCited) → why_gate f n t i ≡ why.Answered c → Alone f n t i c
unfolding cited_at
alone f n t i c e =
    let x = cites f n t i c e in
    let s = x.stretch in
    let p = x.place in
    let h = in-header f n t i s p x.radial x.moment x.gate in
    subst (Alone f n t i) (sym x.is)
    (record {
      data_type = stands f (s.start + p) 4 (omega arith);
      scale = stands f (s.start + p + 4) 4 (omega arith);
      offset = stands f (s.start + p + 8) 4 (omega arith);
      bin_length = stands f (s.start + p + 12) 2 (omega arith);
      code = stands f _ _ (code-there f n t i s p x.radial x.moment x.gate);
      width = refl;
      answer = answers f n t i s p x.radial x.moment x.gate;
      numbers = in-numbers f n t i s p x.radial x.moment x.gate;
      alone = λ g q. same-formula f _ g _ q;
      same = λ g m u k d q b. answered-so g m u k d q ∙ ap answered (same-formula f _ g d b) ∙ sym (answers f n t i s p x.radial x.moment x.gate);
    })

-- ---- a refused question

-- no such radial, and no such moment
told-30 : (f : List ℕ) (n t i : ℕ) → nth (stretches f) n ≡ None → gate_asked f n t i ≡ refused 30 0
unfolding in_found gate_told
told-30 f n t i r = rw r

told-31 : (f : List ℕ) (n t i : ℕ) (s : Stretch) → nth (stretches f) n ≡ Some s → find_in (bytes_of f s) t (moments_of (bytes_of f s)) ≡ None → gate_asked f n t i ≡ refused 31 0
unfolding in_found places.in_stretch gate_told
told-31 f n t i s r m = rw (r, m)

radial-there : (f : List ℕ) (n : ℕ) (s : Stretch) → nth (stretches f) n ≡ Some s → ((radial_of_file f n).number ≡ 0) × (s.start ≡ (radial_of_file f n).place)
unfolding radial_told
radial-there f n s r = rw r (refl, refl)

-- the gates of a moment, and those past them
told-32 : (f : List ℕ) (n t j : ℕ) (s : Stretch) (p : ℕ) → where_is f n t ≡ At s p → gates_at (bytes_of f s) p ≤ j → gate_asked f n t j ≡ refused 32 0
unfolding gate_told gate_in
told-32 f n t j s p w h = rw (w, le-ltb j (gates_at (bytes_of f s) p) h)

told-gate : (f : List ℕ) (n t j : ℕ) (s : Stretch) (p : ℕ) → where_is f n t ≡ At s p → j < gates_at (bytes_of f s) p → (v : Values) × (gate_asked f n t j ≡ answered v)
unfolding gate_told gate_in
told-gate f n t j s p w h =
    let b = bytes_of f s in
    (values_of (told_of (coding_of (moment_at b p)) (get_or (codes_of (moment_at b p).bin_length (data_at b p)) j 0)), rw (w, lt-ltb j (gates_at b p) h))

-- two tellings of one refusal
same-refusal : {A B : Type 0} (j k : ℕ) (x : Telling A) (y : Telling B) → x ≡ refused j 0 → y ≡ refused j 0 → (x ≡ refused k 0) ↔ (y ≡ refused k 0)
same-refusal j k x y a b = (λ e. let z : j ≡ k = cc in rw b (ap (λ (n : ℕ). refused n 0) z), λ e. let z : j ≡ k = cc in rw a (ap (λ (n : ℕ). refused n 0) z))

pub because : (f : List ℕ) (n t i : ℕ) → Because f n t i
because f n t i =
    record {
      refused-so = λ k. refusal k (ways f n t i);
      answered-by = alone f n t i;
      no-radial = λ k e. radial k e (ways f n t i);
      no-moment = λ p e. moment p e (ways f n t i);
      no-gate = λ k e. gates k e (ways f n t i);
    }
  where
    refusal : (k : ℕ) → Ways f n t i → (gate_asked f n t i ≡ refused k 0) ↔ (told_why_gate (why_gate f n t i) ≡ refused k 0)
    refusal k (no-radial r) = same-refusal 30 k (gate_asked f n t i) (told_why_gate (why_gate f n t i)) (told-30 f n t i r) (ap told_why_gate (cites-count f n t i r))
    refusal k (no-moment s r m) = same-refusal 31 k (gate_asked f n t i) (told_why_gate (why_gate f n t i)) (told-31 f n t i s r m) (ap told_why_gate (cites-place f n t i s r m))
    refusal k (no-gate s p r m g) = same-refusal 32 k (gate_asked f n t i) (told_why_gate (why_gate f n t i)) (told-32 f n t i s p (where-is f n t s p r m) g) (ap told_why_gate (cites-gates f n t i s p r m g))
    refusal k (gate s p r m g) =
        let v = (told-gate f n t i s p (where-is f n t s p r m) g).1 in
        let c = ap told_why_gate (cites-fields f n t i s p r m g) in
        (λ e. absurd (let z : ◌≡◌ {A = ℕ} 0 1 = cc in omega arith), λ e. absurd (let z : ◌≡◌ {A = ℕ} 0 1 = cc in omega arith))

    radial : (k : ℕ) → why_gate f n t i ≡ why.NoRadial k → Ways f n t i → (gate_asked f n t i ≡ refused 30 0) × (k ≡ length (stretches f))
    radial k e (no-radial r) = let q = cites-count f n t i r in (told-30 f n t i r, cc)
    radial k e (no-moment s r m) = let q = cites-place f n t i s r m in absurd (let z : ◌≡◌ {A = ℕ} 0 1 = cc in omega arith)
    radial k e (no-gate s p r m g) = let q = cites-gates f n t i s p r m g in absurd (let z : ◌≡◌ {A = ℕ} 0 1 = cc in omega arith)
    radial k e (gate s p r m g) = let q = cites-fields f n t i s p r m g in absurd (let z : ◌≡◌ {A = ℕ} 0 1 = cc in omega arith)

    moment : (p : ℕ) → why_gate f n t i ≡ why.NoMoment p → Ways f n t i → (gate_asked f n t i ≡ refused 31 0) × ((radial_of_file f n).number ≡ 0) × (p ≡ (radial_of_file f n).place)
    moment p e (no-radial r) = let q = cites-count f n t i r in absurd (let z : ◌≡◌ {A = ℕ} 0 1 = cc in omega arith)
    moment p e (no-moment s r m) =
        let q = cites-place f n t i s r m in
        let a : p ≡ s.start = cc in
        let x = radial-there f n s r in
        (told-31 f n t i s r m, x.0, a ∙ x.1)
    moment p e (no-gate s u r m g) = let q = cites-gates f n t i s u r m g in absurd (let z : ◌≡◌ {A = ℕ} 0 1 = cc in omega arith)
    moment p e (gate s u r m g) = let q = cites-fields f n t i s u r m g in absurd (let z : ◌≡◌ {A = ℕ} 0 1 = cc in omega arith)

    gates : (k : ℕ) → why_gate f n t i ≡ why.NoGate k → Ways f n t i
        → (gate_asked f n t i ≡ refused 32 0) × ((j : ℕ) → j < k → (v : Values) × (gate_asked f n t j ≡ answered v)) × ((j : ℕ) → k ≤ j → gate_asked f n t j ≡ refused 32 0)
    gates k e (no-radial r) = let q = cites-count f n t i r in absurd (let z : ◌≡◌ {A = ℕ} 0 1 = cc in omega arith)
    gates k e (no-moment s r m) = let q = cites-place f n t i s r m in absurd (let z : ◌≡◌ {A = ℕ} 0 1 = cc in omega arith)
    gates k e (no-gate s p r m g) =
        let q = cites-gates f n t i s p r m g in
        let a : k ≡ gates_at (bytes_of f s) p = cc in
        let w = where-is f n t s p r m in
        (told-32 f n t i s p w g, λ j h. told-gate f n t j s p w (omega arith), λ j h. told-32 f n t j s p w (omega arith))
    gates k e (gate s p r m g) = let q = cites-fields f n t i s p r m g in absurd (let z : ◌≡◌ {A = ℕ} 0 1 = cc in omega arith)
