-- Which files are told open and which are refused by 40, and what the writer says of a block behind which no hope is left. Assumes nothing.
use Prim.Native.Nat.{ℕ, ◌+◌, ◌<◌}
use native.Mathlib.Omega.{arith}
use mathlib.Core.Bool.{true, false}
use mathlib.Core.List.{List, [], ◌∷◌, ◌++◌}
use mathlib.Core.Logic.{◌↔◌, ◌⊎◌, inl, inr}
use mathlib.Core.Path.{◌≡◌, refl, sym, ap, subst, ◌∙◌}
use lib.Dec.{lit<}
use lib.ListN.{length, take}
use lib.Seq.{take_all, take-take, length-take-le}
use borrow.Author.Tests.{le-ltb}
use Rattle.rules.specs.declared.check.Clause.{Clause}
use Rattle.le.specs.Le.{Bytes}
use Rattle.le.proofs.Tests.{fails}
use Rattle.rules.specs.Check.{Rule, verdict, First, here, behind}
use Rattle.rules.proofs.Judged.{decided-first}
use Rattle.walk.specs.declared.due.Due.{Due}
use Rattle.walk.specs.declared.due.Due.TheVariants as due
use Rattle.walk.specs.declared.due.Walk.{Walk}
use Rattle.walk.specs.Due.{at_start, size_of, is_end}
use Rattle.reading.specs.declared.step.Step.TheVariants as step
use Rattle.reading.specs.Exactly.{rules_of}
use Rattle.reading.specs.Step.{hope_at, plain_step, step_of}
use Rattle.reading.specs.Reading.{fuel, plain_stop, plain_told, stop, told}
use Rattle.reading.proofs.Exactly.{settled, settle-refused, step-of}
use Rattle.reading.proofs.Run.{View, view, goes, Goes, plain_here, is-short, is-over, is-done, last_within}
use Rattle.reading.proofs.Run as run
use Rattle.reading.proofs.Growing.{keeps-took}
use Rattle.writer.specs.declared.order.Answer.TheVariants.{Refused}
use Rattle.writer.specs.Agree.{written}
use Rattle.writer.specs.Block.{Block, generic, site, task, cut, radial, moment, «data», kind_of, says_of, fits_of, bytes_of}
use Rattle.writer.specs.Put.{answer_to, checked, outcome, put_on, put}
use Rattle.writer.proofs.Agreeing.{reads, inner-is}
use Rattle.writer.proofs.EachKind.{going}
use Rattle.writer.proofs.Same.{kind-if}
use Rattle.hope.specs.Hope.{Hope, Reached, start, next, Open, Lost, Against, same, lost, EndsHope}
use Rattle.hope.proofs.Back.{no_block}
use Rattle.hope.proofs.Told.{hope-shorter, front_bytes, reached, accepted-hope, tested, against, lost-when, hope-told}

-- ---- no block's own rules say 40

abbrev Below : List Rule → Type 0
Below [] = Unit {0}
Below (r ∷ rs) = (r.number < 40) × Below rs

first_below : {rs : List Rule} {c : Clause} → First rs c → Below rs → c.number < 40
first_below (here r rs k e) h = h.0
first_below (behind r rs e f) h = first_below f h.1

rules-below : (d : Due) (f : List ℕ) (w : Walk) → Below (rules_of d f w)
unfolding rules_of
rules-below due.Generic f w = (lit< tt, (lit< tt, tt))
rules-below due.Site f w = (lit< tt, (lit< tt, tt))
rules-below due.Task f w = (lit< tt, (lit< tt, (lit< tt, (lit< tt, tt))))
rules-below due.Cut f w = (lit< tt, (lit< tt, (lit< tt, (lit< tt, (lit< tt, (lit< tt, tt))))))
rules-below due.Radial f w = (lit< tt, (lit< tt, (lit< tt, (lit< tt, (lit< tt, (lit< tt, (lit< tt, (lit< tt, (lit< tt, (lit< tt, (lit< tt, tt)))))))))))
rules-below due.Moment f w = (lit< tt, (lit< tt, (lit< tt, (lit< tt, (lit< tt, tt)))))
rules-below due.Data f w = tt
rules-below due.Nothing f w = tt

plain-below : (f : List ℕ) (w : Walk) (n p : ℕ) → plain_step f w ≡ step.Refused n p → n < 40
plain-below f w n p e = go (view f w)
  where
    go : View f w → n < 40
    go (run.here i h) =
        let s = settled w.due f w i in
        let rules = rules_of w.due f w in
        let x = settle-refused (verdict rules) w.at s.next n p (sym s.is ∙ sym (plain_here f w i h) ∙ e) in
        subst (λ (m : ℕ). m < 40) x.2 (first_below (decided-first rules x.0 x.1) (rules-below w.due f w))
    go (run.short i h) = absurd (let q = is-short false f w i h in let z : ◌≡◌ {A = ℕ} 0 1 = cc in omega arith)
    go (run.over i h) = let q = is-over false f w i h in let a : 25 ≡ n = cc in omega arith
    go (run.done i h) = absurd (let q = is-done false f w i h in let z : ◌≡◌ {A = ℕ} 0 1 = cc in omega arith)

-- ---- files

place : (p q : ℕ) → ◌≡◌ {A = List ℕ} (2 ∷ 40 ∷ p ∷ []) (2 ∷ 40 ∷ q ∷ []) → p ≡ q
place p q e = cc

module _ (f : List ℕ) (bs : Bytes f) where
  pub open-only : (n : ℕ) → told f ≡ 1 ∷ n ∷ [] → (plain_told f ≡ 1 ∷ n ∷ []) × Hope (take (plain_stop f).at f)
  open-only n e = go (against f bs)
    where
      go : Against f → (plain_told f ≡ 1 ∷ n ∷ []) × Hope (take (plain_stop f).at f)
      go (same t w r) = (sym t ∙ e, subst (λ (v : Walk). Hope (take v.at f)) w (accepted-hope f bs))
      go (lost l t j k) = absurd (let z : ◌≡◌ {A = ℕ} 0 1 = cc in omega arith)

  pub open-when : (n : ℕ) → plain_told f ≡ 1 ∷ n ∷ [] → Hope (take (plain_stop f).at f) → told f ≡ 1 ∷ n ∷ []
  open-when n e h = go (against f bs)
    where
      go : Against f → told f ≡ 1 ∷ n ∷ []
      go (same t w r) = t ∙ e
      go (lost l t j k) =
          let q = take-take l.next.at (plain_stop f).at f k in
          absurd (l.none (subst Hope q (hope-shorter (take (plain_stop f).at f) l.next.at (front_bytes (plain_stop f).at f bs) (let z = length-take-le (plain_stop f).at f (last_within false (fuel f) f at_start (omega arith)) in omega arith) h)))

  pub at-end : (plain_stop f).at ≡ length f → Open f ↔ (Hope f × (told f ≡ 0 ∷ [] → ⊥))
  at-end e = (there, back)
    where
      there : Open f → Hope f × (told f ≡ 0 ∷ [] → ⊥)
      there o = (subst Hope (take_all (plain_stop f).at f (omega arith)) (open-only o.missing o.told).1, λ c. let t = o.told in let z : ◌≡◌ {A = ℕ} 0 1 = cc in omega arith)

      back : Hope f × (told f ≡ 0 ∷ [] → ⊥) → Open f
      back h = go (hope-told f bs h.0)
        where
          go : (told f ≡ 0 ∷ []) ⊎ ((n : ℕ) × (told f ≡ 1 ∷ n ∷ [])) → Open f
          go (inl c) = absurd (h.1 c)
          go (inr o) = record { missing = o.0; told = o.1 }

  pub forty-only : (p : ℕ) → told f ≡ 2 ∷ 40 ∷ p ∷ [] → Lost f × (p ≡ (stop f).at)
  forty-only p e = go (against f bs)
    where
      go : Against f → Lost f × (p ≡ (stop f).at)
      go (same t w r) = let l = plain-below f (plain_stop f) 40 p (step-of (plain_step f (plain_stop f)) 40 p (sym t ∙ e)) in absurd (omega arith)
      go (lost l t j k) = (l, place p (stop f).at (sym e ∙ t))

  pub forty-when : (p : ℕ) → Lost f → p ≡ (stop f).at → told f ≡ 2 ∷ 40 ∷ p ∷ []
  forty-when p l e = lost-when f bs l ∙ ap (λ (n : ℕ). 2 ∷ 40 ∷ n ∷ []) (sym e)

-- where the plain reading takes no block, the reading says the same
pub otherwise : (f : List ℕ) (w : Walk) → ((m : Walk) → plain_step f w ≡ step.Took m → ⊥) → step_of f w ≡ plain_step f w
otherwise f w none = go (goes false f w)
  where
    go : Goes false f w → step_of f w ≡ plain_step f w
    go (run.on m e) = absurd (none m e)
    go (run.off h) = no_block f w h

-- ---- the writer

-- a walk that is reached in a file is reached in a longer one
reached-on : (A C : List ℕ) {w : Walk} → Reached A w → Reached (A ++ C) w
reached-on A C start = start
reached-on A C (next {w} {m} r e) = next (reached-on A C r) (keeps-took A C w m e)

-- data ends no hope, and any other block has its length
ends-fits : (b : Block) (p : List ℕ) (w : Walk) → hope_at (kind_of b) p w ≡ false → fits_of b w ≡ true
unfolding hope_at
ends-fits (generic r) p w e = refl
ends-fits (site r) p w e = refl
ends-fits (task r) p w e = refl
ends-fits (cut r) p w e = refl
ends-fits (radial r) p w e = refl
ends-fits (moment r) p w e = refl
ends-fits («data» bs) p w e = absurd (let z : ◌≡◌ {A = ℕ} 0 1 = cc in omega arith)

pub writer-forty : (b : Block) (w : Walk) (room : List ℕ) → EndsHope b w room → put b w room ≡ record { answer = Refused 40 w.at; walk = w; room = room }
unfolding put_on outcome answer_to checked
writer-forty b w room x =
    let f = written w room ++ bytes_of b in
    let r : Reached f w = reached-on (written w room) (bytes_of b) (subst (Reached (written w room)) x.agree.stops (reached (written w room))) in
    let t = tested f w x.next x.bytes r x.taken in
    let no : hope_at w.due (take (w.at + size_of w) f) w ≡ false = fails _ (λ y. x.none (t.test.0 y)) in
    let fits = ends-fits b (take (w.at + size_of w) f) w (subst (λ (d : Due). hope_at d (take (w.at + size_of w) f) w ≡ false) x.due no) in
    let says : says_of b room w ≡ step.Refused 40 w.at = sym (reads b x.fits w room x.agree x.due fits) ∙ t.ended x.none in
    inner-is b w room x.agree
    ∙ rw (says, le-ltb (length room) w.at x.agree.within, ap is_end x.due ∙ going b, kind-if w.due (kind_of b) x.due)
