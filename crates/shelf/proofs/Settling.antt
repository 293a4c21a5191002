-- Blocks that are settled with nothing stored are answered as the writer answers them one by one: of the room it asks the length, and,
-- of a radial's cut, the bytes. Assumes nothing.
use Rattle.std.proofs.Common.{◌≡◌, ℕ, ◌+◌, ◌≤◌, Bool, true, false, cond, ltb, List, [], ◌∷◌, ◌++◌, length, sym, refl, ap, ◌∙◌, arith}
use mathlib.Core.Path.{subst⁻¹}
use Rattle.le.proofs.Laws.{length-patch}
use Rattle.walk.specs.declared.due.Walk.{Walk}
use Rattle.walk.specs.Due.{is_end}
use Rattle.reading.specs.declared.step.Step.{Step}
use Rattle.writer.specs.declared.order.Answer.{Answer}
use Rattle.writer.specs.declared.order.Answer.TheVariants.{Taken, Refused}
use Rattle.writer.specs.declared.order.Put.{Put}
use Rattle.writer.specs.Agree.{Agrees, same_kind}
use Rattle.writer.specs.Block.{Block, kind_of, says_of, fits_of, length_of, bytes_of}
use Rattle.writer.specs.Many.{unless_refused, put_next, put_all}
use Rattle.writer.specs.Put.{Outcome, answer_to, settled, settled_by, outcome, put_on, put}
use Rattle.writer.specs.Trips.{Fits}
use Rattle.writer.proofs.Agreeing.{inner-is, keeps}
use Rattle.writer.proofs.EachKind.{long}
use Rattle.writer.proofs.Putting.{passed}
use Rattle.writer.proofs.Same.{kind-is}
use Rattle.retold.specs.Many.{All, FitsAll}
use Rattle.retold.proofs.Many.{next-put}
use Rattle.shelf.specs.Settled.{unless, front, settle_in}

-- an outcome but for its room
abbrev pub put_of : Outcome → Put
put_of o = record { answer = o.answer; walk = o.walk }

-- blocks settled one after the other
unfoldable pub settle_all : List ℕ → ℕ → List Block → Put → Put
settle_all c room [] p = p
settle_all c room (b ∷ bs) p = settle_all c room bs (settle_in (front c) room b p)

pub settle-append : (c : List ℕ) (room : ℕ) (xs ys : List Block) (p : Put) → settle_all c room (xs ++ ys) p ≡ settle_all c room ys (settle_all c room xs p)
unfolding settle_all
settle-append c room [] ys p = refl
settle-append c room (b ∷ xs) ys p = settle-append c room xs ys (settle_in (front c) room b p)

-- ---- one block

-- where another kind is due, nothing hangs on what the reader says of the block
refused-alike : (x y : Bool) (p : ℕ) (s t : Step) (w : Walk)
    → settled (cond x (Refused 37 0) (cond y (Refused 25 p) (Refused 34 p))) s w ≡ settled (cond x (Refused 37 0) (cond y (Refused 25 p) (Refused 34 p))) t w
unfolding settled
refused-alike true y p s t w = refl
refused-alike false true p s t w = refl
refused-alike false false p s t w = refl

settled-alike : (b : Block) (s t : Step) (w : Walk) (room : ℕ) → (w.due ≡ kind_of b → s ≡ t)
    → settled_by (kind_of b) s (fits_of b w) (length_of b) w room ≡ settled_by (kind_of b) t (fits_of b w) (length_of b) w room
unfolding answer_to
settled-alike b s t w room same = go (same_kind w.due (kind_of b)) refl
  where
    go : (x : Bool) → same_kind w.due (kind_of b) ≡ x
        → settled_by (kind_of b) s (fits_of b w) (length_of b) w room ≡ settled_by (kind_of b) t (fits_of b w) (length_of b) w room
    go true e = ap (λ (x : Step). settled_by (kind_of b) x (fits_of b w) (length_of b) w room) (same (kind-is w.due (kind_of b) e))
    go false e = rw e (refused-alike (ltb room w.at) (is_end w.due) w.at s t w)

outcome-settled : (a : Answer) (s : Step) (bs : List ℕ) (w : Walk) (room : List ℕ) → put_of (outcome a s bs w room) ≡ settled a s w
unfolding outcome settled
outcome-settled Taken s bs w room = refl
outcome-settled (Refused n p) s bs w room = refl

outcome-long : (a : Answer) (s : Step) (bs : List ℕ) (w : Walk) (room : List ℕ) → (a ≡ Taken → w.at + length bs ≤ length room)
    → length (outcome a s bs w room).room ≡ length room
unfolding outcome
outcome-long Taken s bs w room h = length-patch room w.at bs (h refl)
outcome-long (Refused n p) s bs w room h = refl

-- the reader says the same of a block with the cut records for the room: always, but of a radial, whose cut has to be the same in both
abbrev Alike : List ℕ → Block → Outcome → Type 0
Alike c b o = o.walk.due ≡ kind_of b → says_of b o.room o.walk ≡ says_of b (front c) o.walk

-- where nothing is refused yet, state and room agree
abbrev pub Agreed : Outcome → Type 0
Agreed o = o.answer ≡ Taken → Agrees o.walk o.room

module _ (c : List ℕ) (b : Block) (fits : Fits b) (o : Outcome) where
  put-settled : Agrees o.walk o.room → Alike c b o
      → put_of (put b o.walk o.room) ≡ settled_by (kind_of b) (says_of b (front c) o.walk) (fits_of b o.walk) (length_of b) o.walk (length o.room)
  unfolding put_on
  put-settled a same =
      ap put_of (inner-is b o.walk o.room a)
      ∙ outcome-settled _ (says_of b o.room o.walk) (bytes_of b) o.walk o.room
      ∙ settled-alike b _ _ o.walk (length o.room) same

  put-long : Agrees o.walk o.room → length (put b o.walk o.room).room ≡ length o.room
  unfolding put_on
  put-long a =
      ap (λ (x : Outcome). length x.room) (inner-is b o.walk o.room a)
      ∙ outcome-long _ (says_of b o.room o.walk) (bytes_of b) o.walk o.room
      (λ t. let s = (passed _ _ _ _ o.walk _ t).suffices in let n = long b fits in omega arith)

  -- what a block after others is settled as, and what it leaves
  pub record Next : Type 0 where
    pub settles : put_of (put_next b o) ≡ settle_in (front c) (length o.room) b (put_of o)
    pub room : length (put_next b o).room ≡ length o.room
    pub agreed : Agreed (put_next b o)

  pub next : Agreed o → (o.answer ≡ Taken → Alike c b o) → Next
  unfolding unless_refused unless
  next a same = go o.answer refl
    where
      go : (x : Answer) → o.answer ≡ x → Next
      go Taken e =
          let n = next-put b o e in
          record {
            settles =
                ap put_of n
                ∙ put-settled (a e) (same e)
                ∙ sym
                (ap
                (λ (x : Answer).
                unless x (put_of o) (settled_by (kind_of b) (says_of b (front c) o.walk) (fits_of b o.walk) (length_of b) o.walk (length o.room))) e);
            room = ap (λ (x : Outcome). length x.room) n ∙ put-long (a e);
            agreed = λ t. subst⁻¹ (λ (x : Outcome). Agrees x.walk x.room) n ((keeps b fits o.walk o.room).agree (ap (λ (x : Outcome). x.answer) (sym n) ∙ t));
          }
      go (Refused n p) e =
          let s : put_next b o ≡ o = ap (λ (x : Answer). unless_refused x o (put b o.walk o.room)) e in
          record {
            settles =
                ap put_of s
                ∙ sym
                (ap
                (λ (x : Answer).
                unless x (put_of o) (settled_by (kind_of b) (says_of b (front c) o.walk) (fits_of b o.walk) (length_of b) o.walk (length o.room))) e);
            room = ap (λ (x : Outcome). length x.room) s;
            agreed = λ t. absurd (let r : Refused n p ≡ Taken = sym e ∙ ap (λ (x : Outcome). x.answer) (sym s) ∙ t in let z : ◌≡◌ {A = ℕ} 0 1 = cc in omega arith);
          }

-- ---- many blocks, none of them a radial

abbrev pub Roomless : Block → Type 0
Roomless b = (room other : List ℕ) (w : Walk) → says_of b room w ≡ says_of b other w

pub record Settles (c : List ℕ) (bs : List Block) (o : Outcome) : Type 0 where
  pub settles : put_of (put_all bs o) ≡ settle_all c (length o.room) bs (put_of o)
  pub room : length (put_all bs o).room ≡ length o.room
  pub agreed : Agreed (put_all bs o)

-- the same after a first block that is settled so
pub first-settles : (c : List ℕ) (b : Block) (fits : Fits b) (bs : List Block) (o : Outcome) → Next c b fits o → Settles c bs (put_next b o) → Settles c (b ∷ bs) o
unfolding put_all settle_all
first-settles c b fits bs o n r =
    record {
      settles = r.settles ∙ ap (λ (k : ℕ). settle_all c k bs (put_of (put_next b o))) n.room ∙ ap (settle_all c (length o.room) bs) n.settles;
      room = r.room ∙ n.room;
      agreed = r.agreed;
    }

pub all-settles : (c : List ℕ) (bs : List Block) → FitsAll bs → All Roomless bs → (o : Outcome) → Agreed o → Settles c bs o
unfolding put_all settle_all
all-settles c [] fits free o a = record { settles = refl; room = refl; agreed = a }
all-settles c (b ∷ bs) fits free o a =
    let n = next c b fits.0 o a (λ t k. free.0 o.room (front c) o.walk) in
    first-settles c b fits.0 bs o n (all-settles c bs fits.1 free.1 (put_next b o) n.agreed)
