-- Many blocks put one after the other: the laws of a run of them, and what state, room and what is written then are. Assumes
-- nothing.
use Prim.Native.Nat.{ℕ, ◌+◌}
use native.Mathlib.Nat.{add-zero}
use native.Mathlib.Omega.{arith}
use mathlib.Core.Path.{◌≡◌, refl, sym, ap, subst⁻¹, ◌∙◌}
use mathlib.Core.List.{List, [], ◌∷◌, ◌++◌, append-nil, append_assoc}
use lib.ListN.{length, length-append, take-append-drop}
use Rattle.le.specs.Le.{patch, run}
use Rattle.le.proofs.Laws.{length-patch, patch-join}
use Rattle.writer.specs.declared.order.Answer.{Answer}
use Rattle.writer.specs.declared.order.Answer.TheVariants.{Taken, Refused}
use Rattle.writer.specs.Agree.{written, Agrees}
use Rattle.writer.specs.Block.{Block, bytes_of}
use Rattle.writer.specs.Many.{unless_refused, put_next, put_all}
use Rattle.writer.specs.Put.{Outcome, put}
use Rattle.writer.proofs.Agreeing.{taking, taken-when, keeps}
use Rattle.writer.proofs.EachKind.{long}
use Rattle.retold.specs.Many.{All, FitsAll, written_in, Added}

-- ---- what is so of each of two lists

pub all_join : {A : Type 0} (P : A → Type 0) (xs ys : List A) → All P xs → All P ys → All P (xs ++ ys)
all_join P [] ys a b = b
all_join P (x ∷ xs) ys a b = (a.0, all_join P xs ys a.1 b)

-- ---- runs of blocks

-- two runs, one after the other
pub put-append : (xs ys : List Block) (o : Outcome) → put_all (xs ++ ys) o ≡ put_all ys (put_all xs o)
unfolding put_all
put-append [] ys o = refl
put-append (b ∷ xs) ys o = put-append xs ys (put_next b o)

-- what is refused already stays as it is
pub put_refused : (bs : List Block) (o : Outcome) (n p : ℕ) → o.answer ≡ Refused n p → put_all bs o ≡ o
unfolding put_all unless_refused
put_refused [] o n p e = refl
put_refused (b ∷ bs) o n p e =
    let same : put_next b o ≡ o = ap (λ (a : Answer). unless_refused a o (put b o.walk o.room)) e in
    ap (put_all bs) same ∙ put_refused bs o n p e

-- so where a run is taken, what stood before it was
pub before-taken : (bs : List Block) (o : Outcome) → (put_all bs o).answer ≡ Taken → o.answer ≡ Taken
before-taken bs o t = go o.answer refl
  where
    go : (a : Answer) → o.answer ≡ a → o.answer ≡ Taken
    go Taken e = e
    go (Refused n p) e =
        let r : Refused n p ≡ Taken = sym e ∙ ap (λ (x : Outcome). x.answer) (sym (put_refused bs o n p e)) ∙ t in
        absurd (let z : ◌≡◌ {A = ℕ} 0 1 = cc in omega arith)

-- and its first block is
pub first_taken : (b : Block) (bs : List Block) (o : Outcome) → (put_all (b ∷ bs) o).answer ≡ Taken → (put_next b o).answer ≡ Taken
unfolding put_all
first_taken b bs o t = before-taken bs (put_next b o) t

-- a block after what was taken is put
pub next-put : (b : Block) (o : Outcome) → o.answer ≡ Taken → put_next b o ≡ put b o.walk o.room
unfolding unless_refused
next-put b o t = ap (λ (a : Answer). unless_refused a o (put b o.walk o.room)) t

-- a run that is taken, by its first block: that one is taken, and the others are put after it and taken
pub record First (b : Block) (bs : List Block) (o : Outcome) : Type 0 where
  pub before : o.answer ≡ Taken
  pub taken : (put b o.walk o.room).answer ≡ Taken
  pub is : put_all (b ∷ bs) o ≡ put_all bs (put b o.walk o.room)
  pub rest : (put_all bs (put b o.walk o.room)).answer ≡ Taken

pub first : (b : Block) (bs : List Block) (o : Outcome) → (put_all (b ∷ bs) o).answer ≡ Taken → First b bs o
unfolding put_all
first b bs o t =
    let before = before-taken (b ∷ bs) o t in
    let next = next-put b o before in
    let is = ap (put_all bs) next in
    record {
      before = before;
      taken = ap (λ (x : Outcome). x.answer) (sym next) ∙ first_taken b bs o t;
      is = is;
      rest = ap (λ (x : Outcome). x.answer) (sym is) ∙ t;
    }

-- ---- what they leave, where all are taken

none-added : (o : Outcome) → Agrees o.walk o.room → Added [] o
unfolding put_all run patch
none-added o a =
    let end = add-zero o.walk.at in
    record {
      agree = a;
      adds = sym (append-nil (written_in o));
      room = sym (rw (end, append-nil (written_in o)) (take-append-drop o.walk.at o.room));
      at = omega arith;
      long = refl;
    }

pub all-added : (bs : List Block) → FitsAll bs → (o : Outcome) → Agrees o.walk o.room → (put_all bs o).answer ≡ Taken → Added bs o
unfolding run
all-added [] fits o a t = none-added o a
all-added (b ∷ bs) fits o a t =
    let w = o.walk in
    let q = put b w o.room in
    let f = first b bs o t in
    let g = taking b w o.room f.taken in
    let v = (taken-when b fits.0 w o.room).only f.taken in
    let k = keeps b fits.0 w o.room in
    let r = all-added bs fits.1 q (k.agree f.taken) f.rest in
    let held : q.room ≡ patch o.room w.at (bytes_of b) = ap (λ (x : Outcome). x.room) g.is in
    let n = long b fits.0 in
    let s = v.suffices in
    let lp = ap length held ∙ length-patch o.room w.at (bytes_of b) (omega arith) in
    let m = v.whole in
    let ra = r.at in
    let rl = r.long in
    let ri = r.agree.within in
    let both = length-append (bytes_of b) (run bytes_of bs) in
    record {
      agree = subst⁻¹ (λ (x : Outcome). Agrees x.walk x.room) f.is r.agree;
      adds =
          ap (λ (x : Outcome). written x.walk x.room) f.is
          ∙ r.adds
          ∙ ap (λ (l : List ℕ). l ++ run bytes_of bs) (k.adds f.taken)
          ∙ append_assoc (written w o.room) (bytes_of b) (run bytes_of bs);
      room =
          ap (λ (x : Outcome). x.room) f.is
          ∙ r.room
          ∙ rw (held, m) (patch-join o.room w.at _ (bytes_of b) (run bytes_of bs) n (omega arith));
      at = ap (λ (x : Outcome). x.walk.at) f.is ∙ omega arith;
      long = ap (λ (x : Outcome). length x.room) f.is ∙ omega arith;
    }
