-- What mending makes of any file, by citing what is shown of its parts. Assumes nothing.
use Prim.Native.Nat.{ℕ}
use native.Mathlib.Omega.{arith}
use mathlib.Core.List.{List}
use mathlib.Core.Path.{◌≡◌, ap, subst}
use lib.ListN.{length}
use Rattle.std.specs.Prelude.{None}
use Rattle.le.specs.Le.{Bytes}
use Rattle.reading.specs.declared.Stretch.{Stretch}
use Rattle.reading.specs.Reading.{stretches}
use Rattle.mend.specs.Closed.{gap_of, InPieces, Closed, Mending}
use Rattle.mend.specs.Kept.{last_kept}
use Rattle.mend.specs.Made.{MadeOf}
use Rattle.mend.specs.Mend.{mended, Lies}
use Rattle.mend.proofs.Keeping.{kept-first}
use Rattle.mend.proofs.Longest.{longest, nothing, two_made, which}
use Rattle.mend.proofs.Lying.{lies, view-lies, viewed, last-seen}
use Rattle.mend.proofs.Making.{made}
use Rattle.mend.proofs.Pieces.{pieces, mended-is}
use Rattle.mend.proofs.Reports.{cuts-written, reported}
use Rattle.mend.proofs.Seen.{Seen, seen, some, none, tail_of}
use Rattle.mend.proofs.Tallied.{tally-same}
use Rattle.mend.proofs.View.{stretch_behind, View}
use Rattle.mend.proofs.Whole.{answer, complete, pairs, radials}

in_pieces : (f : List ℕ) (s : Stretch) → Lies f s → InPieces f s
in_pieces f s l =
    let p = pieces f s l in
    record {
      front = p.a;
      number = p.n;
      cuts = p.b;
      dropped = p.c;
      radials = p.r;
      state = p.o;
      last = p.d;
      behind = p.rest;
      file = p.file;
      volume = mended-is f s p;
      number_at = p.to_number;
      number-long = p.number;
      dropped-long = omega arith;
      radials-at = omega arith;
      state-at = p.to-state;
      state-long = p.state;
      last_end = omega arith;
    }

closed : (f : List ℕ) → Bytes f → (v : View f) → Closed f (stretch_behind v.begun v.final)
closed f bs v =
    let first = kept-first 0 (stretches f) in
    record {
      pieces = in_pieces f (stretch_behind v.begun v.final) (view-lies f v);
      complete = complete f v;
      radials = radials f v;
      cuts = cuts-written f (stretch_behind v.begun v.final) (view-lies f v);
      answers = answer f v first.0 first.1;
      tallies = λ cut t w. tally-same f (mended f (stretch_behind v.begun v.final)) (gap_of f (stretch_behind v.begun v.final)) cut t w (tail_of f bs) (pairs f v);
      made = made f bs v first.0 first.1;
      longest = longest f bs;
    }

-- nothing is made where nothing is kept: a volume has two radials at least
no-volume : (f : List ℕ) → Bytes f → last_kept f ≡ None → (g : List ℕ) → MadeOf f g → ⊥
no-volume f bs e g m = by (seen f bs)
  where
    by : Seen f → ⊥
    by (some v t) = let h = last-seen f v in let z : ◌≡◌ {A = ℕ} 0 1 = cc in omega arith
    by (none k t) = let h = longest f bs g m in let n = two_made f g m in let l = ap length k in omega arith

pub mending : (f : List ℕ) → Bytes f → Mending f
mending f bs =
    record {
      which = which f bs;
      nothing = nothing f bs;
      none = no-volume f bs;
      closed = λ s e. let v = viewed f bs s e in subst (Closed f) v.is (closed f bs v.view);
      reported = λ s e. reported f bs s (lies f bs s e);
    }
