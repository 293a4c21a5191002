-- The loop's invariant: the entries so far stand in the index, and the rest is still to come. Assumes nothing.
use Prim.Native.Nat.{ℕ, ◌+◌, ◌%◌, ◌^◌, ◌<◌}
use native.Mathlib.Nat.{zero-add, mod-eq_of_lt}
use native.Mathlib.Omega.{arith}
use mathlib.Core.Path.{◌≡◌, sym, ap, ◌∙◌}
use lib.ListN.{length}
use Rattle.le.specs.Le.{le, Bytes}
use Rattle.le.proofs.Laws.{part-all}
use Rattle.reading.specs.Reading.{stretches}
use Rattle.index.specs.Index.{start_of, index_for}
use Rattle.index.specs.Making.{second_at}
use Rattle.index.proofs.Agree.{agree-none, agree-low, agree-high, agree-all, stands_here, differs-here}
use Rattle.index.proofs.Entries.{made, AtCount, at_count, AtPlace, at_place, at-end}
use Rattle.index.proofs.Same.{is_same}
use Rattle.index.proofs.Starts.{length-start}
use Rattle.index.proofs.Sections.{length-index, start-stands, start-differs, radials-here}
use Rattle.index.proofs.making.stands.Goals as goal

-- ---- the counts with which the sections start
pub start_stands-requires : goal.start_stands-requires
start_stands-requires c =
    omega (arith, c.requires.index_len, length-index c.args.cuts (stretches c.args.file.now), length-start c.args.cuts)

pub returns-then-not-start_stands : goal.returns-then-not-start_stands
returns-then-not-start_stands c =
    let a = c.args in
    sym (start-differs a.cuts (stretches a.file.now) a.index.now (sym c.start_stands.ensures ∙ c.if-not-start_stands.true))

-- what is read as the number of radials, and what it is compared with
radials-at : (c : goal.Then-u32_at-word) → let a = c.args in
    c.u32_at.result ≡ le 4 a.index.now (second_at a.cuts)
radials-at c = c.u32_at.ensures ∙ ap (le 4 c.args.index.now) c.second_at-second.ensures

radials-are : (c : goal.Then-u32_at-word) → let a = c.args in
    c.word.result ≡ length (stretches a.file.now) % 4294967296
radials-are c = c.word.ensures ∙ ap (λ (n : ℕ). n % 4294967296) c.requires.radials_value

pub returns-then-u32_at-word : goal.returns-then-u32_at-word
returns-then-u32_at-word c =
    let a = c.args in
    let ss = stretches a.file.now in
    sym (differs-here (index_for a.cuts ss) a.index.now 4 (length ss) (second_at a.cuts) (radials-here a.cuts ss)
    (λ e. c.if-u32_at-word.true (radials-at c ∙ e ∙ sym (radials-are c))))

pub overflow_add-second : goal.overflow_add-second
overflow_add-second c =
    let l = length-index c.args.cuts (stretches c.args.file.now) in
    omega (arith, c.requires.index_len, c.well_formed, c.second_at-second.ensures)

radials-at-2 : (c : goal.After-first_radial-at) → let a = c.args in
    c.u32_at.result ≡ le 4 a.index.now (second_at a.cuts)
radials-at-2 c = c.u32_at.ensures ∙ ap (le 4 c.args.index.now) c.second_at-second.ensures

radials-are-2 : (c : goal.After-first_radial-at) → let a = c.args in
    c.word.result ≡ length (stretches a.file.now) % 4294967296
radials-are-2 c = c.word.ensures ∙ ap (λ (n : ℕ). n % 4294967296) c.requires.radials_value

pub loop-first-init : goal.loop-first-init
loop-first-init c =
    let cuts = c.args.cuts in
    let f = c.args.file.now in
    let x = c.args.index.now in
    let ss = stretches f in
    let l : length (index_for cuts ss) < 2 ^ 64 = omega (arith, c.requires.index_len, c.well_formed) in
    let bs : Bytes x = record { byte = λ i. (c.shared_slice_known-2-1.given i).fits } in
    let start = start-stands cuts ss x (sym c.start_stands.ensures ∙ c.if-not-start_stands.false) in
    let one = agree-low (index_for cuts ss) x (second_at cuts) 0 (second_at cuts) (length (start_of cuts)) (agree-none (index_for cuts ss) x (second_at cuts)) start in
    let radials =
    stands_here (index_for cuts ss) x 4 (length ss) (second_at cuts) (radials-here cuts ss) bs
    (sym (radials-at-2 c) ∙ c.if-u32_at-word.false ∙ radials-are-2 c) in
    let two = agree-high (index_for cuts ss) x (second_at cuts) (0 + length (start_of cuts)) (second_at cuts) 4 one radials in
    rw (c.second_at-second.ensures, c.start_length-first.ensures, c.first_radial-at.ensures, c.requires.radials_value)
    (made f cuts c.requires.cuts_value l, rw (zero-add (length (start_of cuts))) at two, bs, c.requires.index_len)

-- ---- a cut's count
count-here : (c : goal.Then-u16_at-half) → AtCount c.loop-first.invariant.0 c.read-header.result c.read-header.ensures
count-here c = at_count c.loop-first.invariant.0 _ _ (sym c.entry_due.ensures ∙ c.in-Count.is)

pub returns-then-u16_at-half : goal.returns-then-u16_at-half
returns-then-u16_at-half c =
    let l = c.loop-first in
    sym (differs-here _ _ 2 l.count l.first (count-here c).entry
    (λ e. c.if-u16_at-half.true (c.u16_at.ensures ∙ e ∙ sym c.half.ensures)))

count-here-2 : (c : goal.Else-u16_at-half) → AtCount c.loop-first.invariant.0 c.read-header.result c.read-header.ensures
count-here-2 c = at_count c.loop-first.invariant.0 _ _ (sym c.entry_due.ensures ∙ c.in-Count.is)

pub overflow_add-first : goal.overflow_add-first
overflow_add-first c = let b = (count-here-2 c).first_fits in omega arith

pub overflow_add-cut : goal.overflow_add-cut
overflow_add-cut c = let b = (count-here-2 c).cut_fits in omega arith

pub loop-first-smaller-in-Count : goal.loop-first-smaller-in-Count
loop-first-smaller-in-Count c = (count-here-2 c).less

pub loop-first-preserved-in-Count : goal.loop-first-preserved-in-Count
loop-first-preserved-in-Count c =
    let l = c.loop-first in
    let a = count-here-2 c in
    let e = sym c.u16_at.ensures ∙ c.if-u16_at-half.false ∙ c.half.ensures in
    (a.then, agree-low _ _ _ l.first l.second 2 l.invariant.1 (stands_here _ _ 2 l.count l.first a.entry l.invariant.2 e), l.invariant.2, l.invariant.3)

-- ---- a radial's place
place_here : (c : goal.Then-u64_at-at) → AtPlace c.loop-first.invariant.0 c.read-header.result c.read-header.ensures
place_here c = at_place c.loop-first.invariant.0 _ _ (sym c.entry_due.ensures ∙ c.in-Place.is)

-- a place fits 8 bytes
whole : (c : goal.Then-u64_at-at) → c.loop-first.at % 2 ^ 64 ≡ c.loop-first.at
whole c = mod-eq_of_lt (omega (arith, (place_here c).header, c.well_formed))

pub returns-then-u64_at-at : goal.returns-then-u64_at-at
returns-then-u64_at-at c =
    let l = c.loop-first in
    sym (differs-here _ _ 8 l.at l.second (place_here c).entry
    (λ e. c.if-u64_at-at.true (c.u64_at.ensures ∙ e ∙ whole c)))

place_here-2 : (c : goal.Else-u64_at-at) → AtPlace c.loop-first.invariant.0 c.read-header.result c.read-header.ensures
place_here-2 c = at_place c.loop-first.invariant.0 _ _ (sym c.entry_due.ensures ∙ c.in-Place.is)

pub overflow_add-second-in-Place : goal.overflow_add-second-in-Place
overflow_add-second-in-Place c = let b = (place_here-2 c).second_fits in omega arith

pub overflow_add-count : goal.overflow_add-count
overflow_add-count c = let b = (place_here-2 c).count_fits in omega arith

pub behind-at-requires : goal.behind-at-requires
behind-at-requires c = let b = (place_here-2 c).header in omega (arith, c.well_formed)

place_here-3 : (c : goal.After-behind-at) → AtPlace c.loop-first.invariant.0 c.read-header.result c.read-header.ensures
place_here-3 c = at_place c.loop-first.invariant.0 _ _ (sym c.entry_due.ensures ∙ c.in-Place.is)

pub overflow_sub-left : goal.overflow_sub-left
overflow_sub-left c = let b = (place_here-3 c).some in omega arith

pub loop-first-smaller : goal.loop-first-smaller
loop-first-smaller c = (place_here-3 c).less

whole-2 : (c : goal.After-behind-at) → c.loop-first.at % 2 ^ 64 ≡ c.loop-first.at
whole-2 c = mod-eq_of_lt (omega (arith, (place_here-3 c).header, c.well_formed))

pub loop-first-preserved : goal.loop-first-preserved
loop-first-preserved c =
    let l = c.loop-first in
    let a = place_here-3 c in
    let e = sym c.u64_at.ensures ∙ c.if-u64_at-at.false ∙ sym (whole-2 c) in
    (rw c.behind-at.ensures a.then, agree-high _ _ _ l.first l.second 8 l.invariant.1 (stands_here _ _ 8 _ l.second a.entry l.invariant.2 e), l.invariant.2, l.invariant.3)

-- ---- the end
pub returns-in-End : goal.returns-in-End
returns-in-End c =
    let l = c.loop-first in
    let e = at-end l.invariant.0 _ c.read-header.ensures (sym c.entry_due.ensures ∙ c.in-End.is) in
    sym (is_same _ _ (sym (agree-all _ _ _ l.first l.second l.invariant.1 e.0 e.1) ∙ part-all _ _ l.invariant.3))
