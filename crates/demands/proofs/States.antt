-- The table of states holds of the definitions, line by line, and so of every volume and of what is accepted of any file.
-- Assumes nothing.
use mathlib.Core.Path.{subst, ◌≡◌, refl, sym, ◌∙◌}
use mathlib.Core.Bool.{Bool, true, false, cond}
use mathlib.Core.List.{List, [], ◌∷◌}
use mathlib.Core.Logic.{◌⊎◌, inl, inr, ⊎_elim, dite}
use Prim.Native.Nat.{ℕ, zero, suc, ◌+◌, ◌≤◌, ◌<◌}
use native.Mathlib.Decide.{dec_lt}
use native.Mathlib.Omega.{arith}
use borrow.Author.Tests.{le-leb, lt-leb, lt-ltb, le-ltb, eq-eqb, ne_eqb}
use lib.Dec.{eqb, ltb, lit<}
use lib.ListN.{length, get_or, length-append}
use mir.Syntax.{w32}
use Rattle.rules.specs.States.{rhi, most_cuts, opening, closing}
use Rattle.rules.proofs.Allowed.{cuts-allowed, first-allowed, other-allowed}
use Rattle.rules.proofs.Numbers.{turned, not-turned, one-cut, many-cuts, most}
use Rattle.cut.specs.declared.Cut.{Cut}
use Rattle.task.specs.declared.Task.{Task}
use Rattle.volume.specs.Accepted.{Begun, BegunOk, UnclosedOk}
use Rattle.volume.specs.Volume.{VolumeRadial, Volume, IsVolume, TaskOk, RadialOk, Closes, LayerOk, LayersOk}
use Rattle.volume.proofs.Sense.{sense}
use Rattle.volume.proofs.Tells.{same_number}
use Rattle.demands.specs.States.{States, from, Line, one, many, table, most_in, states_in, CutOf, Says, Lines, ToTheLast, InOrder, LayersInOrder, Ones, Unclosed, line_of, Layered, StateRule}

-- a line holds where it has the definitions' numbers
says : (scan : ℕ) (l : Line) → most_cuts scan ≡ most_in l
    → ((n k : ℕ) → CutOf l n k → (opening scan k ≡ (states_in l n k).opens) × (closing scan n k ≡ (states_in l n k).closes))
    → Says scan l
says scan l cuts at =
    record {
      cuts = λ n. rw cuts at (cuts-allowed scan n);
      first = λ n k s c. rw (at n k c).0 at (first-allowed scan n k s);
      other = λ n k count s c h. rw (at n k c).1 at (other-allowed scan n k count s h);
      closes = λ n k c. (at n k c).1;
    }

-- scan types that are no RHI
abbrev flat : Line
flat = many 256 (from 3 4) (from 3 2) (from 0 2) (from 0 4)

flat-states : (scan n k : ℕ) → rhi scan ≡ false → CutOf flat n k → (opening scan k ≡ (states_in flat n k).opens) × (closing scan n k ≡ (states_in flat n k).closes)
unfolding opening closing
flat-states scan n k level c =
    dite (dec_lt 1 k)
    (λ later. dite (dec_lt k n)
    (λ before. rw (level, ne_eqb n 1 (λ e. omega arith), ne_eqb k 1 (λ e. omega arith), lt-leb k 1 (omega arith), lt-ltb k n before) (refl, refl))
    (λ last. rw (level, ne_eqb n 1 (λ e. omega arith), ne_eqb k 1 (λ e. omega arith), lt-leb k 1 (omega arith), le-ltb k n (omega arith)) (refl, refl)))
    (λ first. dite (dec_lt 1 n)
    (λ several. rw (level, ne_eqb n 1 (λ e. omega arith), eq-eqb k 1 (omega arith), le-leb k 1 (omega arith), lt-ltb k n (omega arith)) (refl, refl))
    (λ alone. rw (level, eq-eqb n 1 (omega arith), le-leb k 1 (omega arith), le-ltb k n (omega arith)) (refl, refl)))

says-flat : (scan : ℕ) → (scan ≡ 2 → ⊥) → (scan ≡ 5 → ⊥) → Says scan flat
says-flat scan no-2 no-5 = says scan flat (many-cuts scan no-2) (λ n k c. flat-states scan n k (not-turned scan (⊎_elim no-2 no-5)) c)

-- an RHI
rhi-states : (scan n k : ℕ) → (scan ≡ 2) ⊎ (scan ≡ 5) → (opening scan k ≡ 5) × (closing scan n k ≡ 6)
unfolding opening closing
rhi-states scan n k e = rw (turned scan e) (refl, refl)

says_two : Says 2 (one (from 5 6))
says_two = says 2 (one (from 5 6)) (one-cut 2 refl) (λ n k c. rhi-states 2 n k (inl refl))

same : (a b d : Bool) (s : States) → cond a s (cond b s (cond d s s)) ≡ s
same true b d s = refl
same false true d s = refl
same false false true s = refl
same false false false s = refl

says_five : Says 5 (many 256 (from 5 6) (from 5 6) (from 5 6) (from 5 6))
says_five =
    says 5 (many 256 (from 5 6) (from 5 6) (from 5 6) (from 5 6)) (many-cuts 5 (λ e. omega arith))
    (λ n k c. rw (same (eqb n 1) (eqb k 1) (ltb k n) (from 5 6)) (rhi-states 5 n k (inr refl)))

line-says : (scan : ℕ) → scan < length table → Says scan (line_of scan)
unfolding table
line-says zero h = says-flat 0 (λ e. omega arith) (λ e. omega arith)
line-says (suc zero) h = says-flat 1 (λ e. omega arith) (λ e. omega arith)
line-says (suc (suc zero)) h = says_two
line-says (suc (suc (suc zero))) h = says-flat 3 (λ e. omega arith) (λ e. omega arith)
line-says (suc (suc (suc (suc zero)))) h = says-flat 4 (λ e. omega arith) (λ e. omega arith)
line-says (suc (suc (suc (suc (suc zero))))) h = says_five
line-says (suc (suc (suc (suc (suc (suc zero)))))) h = says-flat 6 (λ e. omega arith) (λ e. omega arith)
line-says (suc (suc (suc (suc (suc (suc (suc n))))))) h = absurd (omega arith)

each_line : (scan : ℕ) (ls : List Line) (d : Line) → ((i : ℕ) → i < length ls → Says (scan + i) (get_or ls i d)) → Lines scan ls
each_line scan [] d says = tt
each_line scan (l ∷ ls) d says =
    let here : scan + 0 ≡ scan = omega arith in
    (rw here at (says 0 (omega arith)), each_line (suc scan) ls d (λ i h. let next : scan + suc i ≡ suc scan + i = omega arith in rw next at (says (suc i) (omega arith))))

-- a radial that neither opens nor closes its cut
between : (t : Task) (c : Cut) (k before in_cut : ℕ) (b : VolumeRadial) → 1 ≤ in_cut → RadialOk t c k before in_cut b → (Closes t k b → ⊥) → b.header.state ≡ 1
between t c k before in_cut b h ok stays =
    ⊎_elim (λ e. e) (λ e. absurd (stays e)) ((other-allowed t.scan_type t.cut_number k in_cut b.header.state h).0 ok.rules.0)

-- a layer's radials behind the first, closed and not
to-the-last : (t : Task) (c : Cut) (k before in_cut : ℕ) (bs : List VolumeRadial) → 1 ≤ in_cut → LayerOk t c k before in_cut bs
    → ToTheLast (closing t.scan_type t.cut_number k) bs
to-the-last t c k before in_cut [] h ok = absurd ok
to-the-last t c k before in_cut (b ∷ []) h ok = ok.1
to-the-last t c k before in_cut (b ∷ (n ∷ ns)) h ok =
    (between t c k before in_cut b h ok.0 ok.1, to-the-last t c k (suc before) (suc in_cut) (n ∷ ns) (omega arith) ok.2)

ones : (t : Task) (c : Cut) (k before in_cut : ℕ) (bs : List VolumeRadial) → 1 ≤ in_cut → UnclosedOk t c k before in_cut bs → Ones bs
ones t c k before in_cut [] h ok = tt
ones t c k before in_cut (b ∷ bs) h ok =
    (between t c k before in_cut b h ok.0 ok.1, ones t c k (suc before) (suc in_cut) bs (omega arith) ok.2)

module _ (t : Task) (l : Line) (line : Says t.scan_type l) (some : t.cut_number ≤ most_in l) where
  in_order : (c : Cut) (k before : ℕ) (bs : List VolumeRadial) → CutOf l t.cut_number k → LayerOk t c k before 0 bs
      → InOrder (states_in l t.cut_number k) bs
  in_order c k before [] of ok = absurd ok
  in_order c k before (b ∷ []) of ok = absurd (let two = sense.two t c k before (b ∷ []) ok in omega arith)
  in_order c k before (b ∷ (n ∷ ns)) of ok = (
    (line.first t.cut_number k b.header.state of).0 ok.0.rules.0,
    subst (λ (x : ℕ). ToTheLast x (n ∷ ns)) (line.closes t.cut_number k of) (to-the-last t c k (suc before) 1 (n ∷ ns) (omega arith) ok.2),
  )

  unclosed : (c : Cut) (k before : ℕ) (bs : List VolumeRadial) → CutOf l t.cut_number k → UnclosedOk t c k before 0 bs
      → Unclosed (states_in l t.cut_number k) bs
  unclosed c k before [] of ok = tt
  unclosed c k before (b ∷ bs) of ok =
      ((line.first t.cut_number k b.header.state of).0 ok.0.rules.0, ones t c k (suc before) 1 bs (omega arith) ok.2)

  layers-in-order : (k before : ℕ) (cs : List Cut) (ls : List (List VolumeRadial)) → 1 ≤ k → k + length ls ≤ suc t.cut_number
      → LayersOk t k before cs ls → LayersInOrder l t.cut_number k ls
  layers-in-order k before cs [] first last ok = tt
  layers-in-order k before [] (bs ∷ ls) first last ok = absurd ok
  layers-in-order k before (c ∷ cs) (bs ∷ ls) first last ok = (
    in_order c k before bs (record { from_one = first; to_last = omega arith; allowed = some }) ok.0,
    layers-in-order (suc k) (before + length bs) cs ls (omega arith) (omega arith) ok.1,
  )

-- an accepted task is in the table, and has a line there that it keeps
record Kept (t : Task) : Type 0 where
  scan : t.scan_type < length table
  line : Says t.scan_type (line_of t.scan_type)
  most : t.cut_number ≤ most_in (line_of t.scan_type)

kept : (t : Task) → TaskOk t → Kept t
unfolding table
kept t ok =
    let scan : t.scan_type < length table = let h = most w32 0 6 t.scan_type (lit< tt) ok.1.1.0 in omega arith in
    let line = line-says t.scan_type scan in
    record { scan = scan; line = line; most = ((line.cuts t.cut_number).0 ok.1.1.1.1.0).1 }

layered : (t : Task) (cs : List Cut) (ls : List (List VolumeRadial)) → Kept t → length ls ≤ t.cut_number → LayersOk t 1 0 cs ls → Layered t ls
layered t cs ls k some ok =
    record { scan = k.scan; most = k.most; order = layers-in-order t (line_of t.scan_type) k.line k.most 1 0 cs ls (omega arith) (omega arith) ok }

volumes : (v : Volume) → IsVolume v → Layered v.task v.layers × (length v.layers ≡ v.task.cut_number)
volumes v is =
    let number : length v.layers ≡ v.task.cut_number = sym (same_number v.task 1 0 v.cuts v.layers is.layers) ∙ is.headed.number in
    (layered v.task v.cuts v.layers (kept v.task is.headed.task) (omega arith) is.layers, number)

begun : (b : Begun) → BegunOk b
    → Layered b.task b.closed × Unclosed (states_in (line_of b.task.scan_type) b.task.cut_number (suc (length b.closed))) b.now
begun b is =
    let t = b.task in
    let k = kept t is.headed.task in
    let early = same_number t 1 0 b.early b.closed is.closed in
    let cuts : length b.early + suc (length b.later) ≡ t.cut_number = sym (length-append b.early (b.cut ∷ b.later)) ∙ is.headed.number in (
      layered t b.early b.closed k (omega arith) is.closed,
      unclosed t (line_of t.scan_type) k.line k.most b.cut (suc (length b.closed)) _ b.now
          (record { from_one = omega arith; to_last = omega arith; allowed = k.most }) is.now,
    )

pub state-rule : StateRule
state-rule = record { lines = each_line 0 table (one (from 0 0)) (λ i h. let same : 0 + i ≡ i = omega arith in rw same (line-says i h)); volumes = volumes; begun = begun }
