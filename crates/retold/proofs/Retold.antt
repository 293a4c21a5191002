-- A radial that was put block by block is what the questions answer of every file that begins with what is then written. Assumes
-- nothing.
use Prim.Native.Nat.{ℕ, suc, ◌+◌, ◌-◌, ◌≤◌}
use native.Mathlib.Omega.{arith}
use mathlib.Core.List.{List, [], ◌∷◌, ◌++◌, append_assoc}
use mathlib.Core.Path.{◌≡◌, refl, sym, ap, ap₂, subst⁻¹, ◌∙◌}
use lib.ListN.{length, take, drop, length-append}
use lib.Seq.{length-take-le}
use Rattle.std.specs.Prelude.{Option, Some}
use Rattle.le.specs.Le.{run}
use Rattle.radial.specs.declared.Radial.{Radial}
use Rattle.radial.specs.Radial.{radial_at, radial_bytes, RadialFits}
use Rattle.walk.specs.declared.due.Due.{Due}
use Rattle.walk.specs.declared.due.Walk.{Walk}
use Rattle.walk.specs.Due.{ends_radial}
use Rattle.reading.specs.declared.Stretch.{Stretch}
use Rattle.reading.specs.Reading.{fuel, stop, trace, stretches, nth}
use Rattle.reading.specs.Reading as reading
use Rattle.reading.proofs.Counts.{counted-all}
use Rattle.reading.proofs.Growing.{kept}
use Rattle.ask.specs.Answers.{radial_told, radial_of_file, gate_told, moment_told, told_moment}
use Rattle.ask.specs.Growth.{gate_asked}
use Rattle.ask.specs.Places.{in_found}
use Rattle.writer.specs.declared.order.Answer.TheVariants.{Taken}
use Rattle.writer.specs.Block.{radial, bytes_of}
use Rattle.writer.specs.Many.{put_all}
use Rattle.writer.specs.Put.{Outcome, put}
use Rattle.writer.proofs.Agreeing.{taken-when}
use Rattle.retold.specs.Many.{FitsAll, written_in, Added}
use Rattle.retold.specs.Retold.{Pair, PairsFit, moment_blocks, radial_blocks, moment_among, gate_among, moment_asked, put_radial, stretch_put, whole_in, Retold}
use Rattle.retold.proofs.Many.{First, first, all-added}
use Rattle.retold.proofs.Own.{front-there, header-there, gates-told, moments-told}
use Rattle.retold.proofs.Whole.{same-stretches, radial-put, radial-some, Ends, Through, through}

-- the blocks of moments fit where their headers do: data always fit
pub blocks-fit : (ps : List Pair) → PairsFit ps → FitsAll (moment_blocks ps)
unfolding moment_blocks
blocks-fit [] fits = tt
blocks-fit (p ∷ ps) fits = (fits.0, (tt, blocks-fit ps fits.1))

-- a radial has a moment at least, so there is a last one
through-some : (ps : List Pair) → 1 ≤ length ps → PairsFit ps → (o : Outcome) → o.walk.rest.todo ≡ length ps → (put_all (moment_blocks ps) o).answer ≡ Taken → Through ps o
through-some [] some fits o k t = absurd (omega arith)
through-some (p ∷ ps) some fits o k t = through p ps fits o k t

-- the stretch behind some others has the number after theirs
nth-next : (l r : List Stretch) (s : Stretch) → nth (l ++ (s ∷ []) ++ r) (suc (length l)) ≡ Some s
unfolding nth
nth-next [] r s = refl
nth-next (x ∷ l) r s = nth-next l r s

module _ (o : Outcome) (r : Radial) (ps : List Pair) (fits : RadialFits r) (pairs : PairsFit ps) (count : r.moment_number ≡ length ps) (taken : (put_radial r ps o).answer ≡ Taken) where
  -- ---- what was put

  head : First (radial r) (moment_blocks ps) o
  head = first (radial r) (moment_blocks ps) o taken

  begun : Outcome
  begun = put (radial r) o.walk o.room

  added : Added (radial_blocks r ps) o
  added = all-added (radial_blocks r ps) (fits, blocks-fit ps pairs) o ((taken-when (radial r) fits o.walk o.room).only head.taken).agree taken

  -- behind its header as many moments are to come as it says
  moments : Through ps begun
  unfolding begun
  moments =
      let some = radial-some r o.walk o.room head.taken in
      let todo = ap (λ (x : Outcome). x.walk.rest.todo) (radial-put r o.walk o.room head.taken) in
      through-some ps (omega arith) pairs begun (todo ∙ count) head.rest

  ends : Ends begun (put_radial r ps o)
  unfolding begun
  ends = subst⁻¹ (Ends begun) head.is moments.ends

  one_more : stretches (written_in (put_radial r ps o)) ≡ stretches (written_in o) ++ (stretch_put r ps o ∷ [])
  unfolding begun ends_radial
  one_more =
      let e = radial-put r o.walk o.room head.taken in
      let d = ((taken-when (radial r) fits o.walk o.room).only head.taken).kind in
      ends.stretches
      ∙ ap₂ (λ (i j : ℕ). stretches (written_in begun) ++ (record { start = i; end = (put_radial r ps o).walk.at; cut = j } ∷ []))
      (ap (λ (x : Outcome). x.walk.present.start) e) (ap (λ (x : Outcome). x.walk.count.cut) e)
      ∙ ap (λ (l : List Stretch). l ++ (stretch_put r ps o ∷ [])) (same-stretches (radial r) fits o.walk o.room head.taken (ap (λ (x : Due). ends_radial x o.walk.rest.todo) d))

  counted : (put_radial r ps o).walk.count.whole ≡ r.sequence
  unfolding begun
  counted = ends.whole ∙ ap (λ (x : Outcome). x.walk.present.sequence) (radial-put r o.walk o.room head.taken)

  numbered : suc (whole_in o) ≡ r.sequence
  numbered =
      let l = length-append (stretches (written_in o)) (stretch_put r ps o ∷ []) in
      let n = ap length one_more in
      let c = sym (counted-all (written_in (put_radial r ps o))) ∙ ap (λ (x : Walk). x.count.whole) added.agree.stops ∙ counted in
      omega arith

  -- ---- a file that begins with what is then written

  module _ (C : List ℕ) where
    file : List ℕ
    file = written_in (put_radial r ps o) ++ C

    file-is : file ≡ written_in o ++ run bytes_of (radial_blocks r ps) ++ C
    unfolding file
    file-is = ap (λ (l : List ℕ). l ++ C) added.adds

    start_is : length (written_in o) ≡ o.walk.at
    start_is = length-take-le o.walk.at o.room ((taken-when (radial r) fits o.walk o.room).only head.taken).agree.within

    found : nth (stretches file) (suc (whole_in o)) ≡ Some (stretch_put r ps o)
    unfolding file
    found =
        let A = written_in (put_radial r ps o) in
        ap (λ (l : List Stretch). nth l (suc (whole_in o))) (kept A C ∙ ap (λ (l : List Stretch). l ++ trace (fuel (A ++ C)) (A ++ C) (stop A)) one_more)
        ∙ nth-next (stretches (written_in o)) (trace (fuel (A ++ C)) (A ++ C) (stop A)) (stretch_put r ps o)

    own-bytes : reading.bytes_of file (stretch_put r ps o) ≡ run bytes_of (radial_blocks r ps)
    own-bytes =
        let a = added.at in
        let size : length (run bytes_of (radial_blocks r ps)) ≡ (put_radial r ps o).walk.at - o.walk.at = omega arith in
        ap₂ (λ (n : ℕ) (l : List ℕ). take ((put_radial r ps o).walk.at - o.walk.at) (drop n l)) (sym start_is) file-is
        ∙ front-there (written_in o) (run bytes_of (radial_blocks r ps)) C _ size

    header-told : radial_of_file file (suc (whole_in o)) ≡ record { number = 0; place = o.walk.at; header = r }
    unfolding radial_told run
    header-told =
        let post = run bytes_of (moment_blocks ps) in
        let by-header : file ≡ written_in o ++ radial_bytes r ++ (post ++ C) =
        file-is ∙ ap (λ (l : List ℕ). l ++ C) (sym (append_assoc (written_in o) (radial_bytes r) post)) ∙ append_assoc (written_in o ++ radial_bytes r) post C in
        let here : radial_at file o.walk.at ≡ r = ap₂ radial_at by-header (sym start_is) ∙ header-there (written_in o) r (post ++ C) fits in
        ap (radial_told file) found ∙ ap (λ (x : Radial). record { number = 0; place = o.walk.at; header = x }) here

    gate-told : (t i : ℕ) → gate_asked file (suc (whole_in o)) t i ≡ gate_among ps t i
    unfolding in_found
    gate-told t i =
        ap (λ (x : Option Stretch). gate_told file (in_found file x t) i) found
        ∙ gates-told r ps fits pairs moments.long count file (stretch_put r ps o) own-bytes t i

    moment-told : (t : ℕ) → moment_asked file (suc (whole_in o)) t ≡ moment_among ps t
    unfolding in_found
    moment-told t =
        ap (λ (x : Option Stretch). told_moment (moment_told file (in_found file x t))) found
        ∙ moments-told r ps fits pairs moments.long count file (stretch_put r ps o) own-bytes t

  pub retold : Retold o r ps
  unfolding file
  retold =
      record {
        agree = added.agree;
        adds = added.adds;
        stretches = one_more;
        whole = counted;
        number = numbered;
        header = header-told;
        moment = moment-told;
        gate = gate-told;
      }
