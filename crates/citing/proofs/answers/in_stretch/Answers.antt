use mathlib.Core.Path.{◌≡◌, sym, ap, ap₂, ◌∙◌}
use mathlib.Core.List.{List}
use Prim.Native.Nat.{ℕ, ◌+◌, ◌-◌, ◌<◌, ◌≤◌}
use native.Mathlib.Omega.{arith}
use borrow.Author.Tests.{lt-ltb, le-ltb}
use lib.ListN.{length, length-take, length-drop}
use Rattle.std.specs.Prelude.{Some, None}
use Rattle.gates.specs.Codes.{codes_of}
use Rattle.gates.proofs.Codes.{codes-le}
use Rattle.moment.specs.declared.Moment.{Moment}
use Rattle.moment.specs.Moment.{moment_at}
use Rattle.moments.specs.Moments.{data_at, find_in, moments_of}
use Rattle.moments.proofs.Laws.{all-within, found}
use Rattle.reading.specs.declared.Stretch.{Stretch}
use Rattle.reading.specs.Reading.{bytes_of}
use Rattle.reading.proofs.Radials.{in-file}
use Rattle.citing.specs.Answers.{gates_at, in_moment}
use Rattle.citing.proofs.answers.in_stretch.Goals as goal

-- a gate that the moment has lies in the file
in-data : (f : List ℕ) (s : Stretch) (t p i : ℕ) → find_in (bytes_of f s) t (moments_of (bytes_of f s)) ≡ Some p → i < gates_at (bytes_of f s) p → s.start + (p + 32 + i) < length f
unfolding data_at
in-data f s t p i e h =
    let b = bytes_of f s in
    let r = all-within _ b 64 (found b t (moments_of b) p e).one in
    let c = codes-le (moment_at b p).bin_length (data_at b p) in
    let l : length (data_at b p) ≤ length b - (p + 32) = simp (length-take, length-drop) (omega arith) in
    let k = in-file f s (p + 32 + i + 1) (omega arith) (omega arith) in
    omega arith

-- the moment that was found, and how many gates it has
abbrev place : goal.Then-i-gates → ℕ
place c = c.in-Some.p

its-place : (c : goal.Then-i-gates) → find_in (bytes_of c.args.file.now c.args.s) c.args.t (moments_of (bytes_of c.args.file.now c.args.s)) ≡ Some (place c)
its-place c = rw (← c.own-b.ensures) (sym c.find.ensures ∙ c.in-Some.is)

its-gates : (c : goal.Then-i-gates) → c.gates_in-gates.result ≡ gates_at (bytes_of c.args.file.now c.args.s) (place c)
its-gates c =
    c.gates_in-gates.ensures
    ∙ ap₂ (λ (h : Moment) (d : List ℕ). length (codes_of h.bin_length d)) (c.read.ensures ∙ ap (λ (b : List ℕ). moment_at b (place c)) c.own-b.ensures)
    (c.data.ensures ∙ ap (λ (b : List ℕ). data_at b (place c)) c.own-b.ensures)

its-code : (c : goal.Then-i-gates) → c.args.i < c.gates_in-gates.result → c.args.s.start + (place c + 32 + c.args.i) < length c.args.file.now
its-code c h =
    let a = c.args in
    let g = its-gates c in
    in-data a.file.now a.s a.t (place c) a.i (its-place c) (omega arith)

pub overflow_add-start : goal.overflow_add-start
overflow_add-start c = let k = its-code c c.if-i-gates.true in omega arith

pub cited-requires : goal.cited-requires
cited-requires c = let k = its-code c c.if-i-gates.true in omega arith

abbrev place-2 : goal.After-cited → ℕ
place-2 c = c.in-Some.p

its-place-2 : (c : goal.After-cited) → find_in (bytes_of c.args.file.now c.args.s) c.args.t (moments_of (bytes_of c.args.file.now c.args.s)) ≡ Some (place-2 c)
its-place-2 c = rw (← c.own-b.ensures) (sym c.find.ensures ∙ c.in-Some.is)

its-gates-2 : (c : goal.After-cited) → c.gates_in-gates.result ≡ gates_at (bytes_of c.args.file.now c.args.s) (place-2 c)
its-gates-2 c =
    c.gates_in-gates.ensures
    ∙ ap₂ (λ (h : Moment) (d : List ℕ). length (codes_of h.bin_length d)) (c.read.ensures ∙ ap (λ (b : List ℕ). moment_at b (place-2 c)) c.own-b.ensures)
    (c.data.ensures ∙ ap (λ (b : List ℕ). data_at b (place-2 c)) c.own-b.ensures)

pub returns-then-i-gates : goal.returns-then-i-gates
unfolding in_moment
returns-then-i-gates c =
    rw (its-place-2 c, ← its-gates-2 c, lt-ltb _ _ c.if-i-gates.true) (simp c.cited.ensures)

abbrev place-3 : goal.Else-i-gates → ℕ
place-3 c = c.in-Some.p

its-place-3 : (c : goal.Else-i-gates) → find_in (bytes_of c.args.file.now c.args.s) c.args.t (moments_of (bytes_of c.args.file.now c.args.s)) ≡ Some (place-3 c)
its-place-3 c = rw (← c.own-b.ensures) (sym c.find.ensures ∙ c.in-Some.is)

its-gates-3 : (c : goal.Else-i-gates) → c.gates_in-gates.result ≡ gates_at (bytes_of c.args.file.now c.args.s) (place-3 c)
its-gates-3 c =
    c.gates_in-gates.ensures
    ∙ ap₂ (λ (h : Moment) (d : List ℕ). length (codes_of h.bin_length d)) (c.read.ensures ∙ ap (λ (b : List ℕ). moment_at b (place-3 c)) c.own-b.ensures)
    (c.data.ensures ∙ ap (λ (b : List ℕ). data_at b (place-3 c)) c.own-b.ensures)

pub returns-else-i-gates : goal.returns-else-i-gates
unfolding in_moment
returns-else-i-gates c =
    rw (its-place-3 c, ← its-gates-3 c, le-ltb _ _ c.if-i-gates.false)

pub returns-in-None : goal.returns-in-None
unfolding in_moment
returns-in-None c =
    let a = c.args in
    let e : find_in (bytes_of a.file.now a.s) a.t (moments_of (bytes_of a.file.now a.s)) ≡ None = rw (← c.own-b.ensures) (sym c.find.ensures ∙ c.in-None.is) in
    rw e
