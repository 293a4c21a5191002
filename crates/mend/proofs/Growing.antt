-- Growth of what is mended: the statement of specs/Growth. The task block and the last kept radial lie in A, so the pieces of A ++ C are those
-- of A but for what is left out behind them. Assumes nothing.
use Prim.Native.Nat.{ℕ, ◌+◌, ◌-◌, ◌<◌}
use native.Mathlib.Omega.{arith}
use mathlib.Core.List.{List, [], ◌∷◌, ◌++◌, append_assoc}
use mathlib.Core.Path.{◌≡◌, refl, sym, ap, ap₂, ◌∙◌}
use lib.ListN.{length}
use Rattle.std.specs.Prelude.{Some, None}
use Rattle.le.specs.Le.{bytes, Bytes}
use Rattle.le.proofs.Laws.{part_in}
use Rattle.rules.specs.States.{closing}
use Rattle.radial.specs.declared.Radial.{Radial}
use Rattle.radial.specs.Radial.{radial_of, radial_at}
use Rattle.task.specs.declared.Task.{Task}
use Rattle.task.specs.Task.{task_of, task_at}
use Rattle.reading.specs.declared.Stretch.{Stretch}
use Rattle.reading.specs.declared.step.Step.TheVariants.{Refused}
use Rattle.reading.specs.Reading.{ending, stop, stretches, told}
use Rattle.reading.proofs.Exactly.{step-of}
use Rattle.reading.proofs.Grown.{grows}
use Rattle.reading.proofs.Growing.{keeps-refused, rests}
use Rattle.reading.proofs.Run.{Stays}
use Rattle.volume.specs.InPlace.{task_block}
use Rattle.mend.specs.Closed.{HandedBack}
use Rattle.mend.specs.Growth.{SameMended, MendGrows}
use Rattle.mend.specs.Kept.{kept_after, last_or, last_kept}
use Rattle.mend.specs.Mend.{behind_cut, cut_number_place, field_of, mended, Lies}
use Rattle.mend.proofs.Keeping.{kept-grows}
use Rattle.mend.proofs.Lying.{lies}
use Rattle.mend.proofs.Pieces.{Pieces, pieces, mended-is, split-bytes}

-- ---- what lies in A

module _ (A C : List ℕ) (s : Stretch) (l : Lies A s) where
  task-same : task_block (A ++ C) ≡ task_block A
  unfolding task_at
  task-same = ap task_of (part_in 256 A C 160 (omega arith))

  header-same : radial_at (A ++ C) s.start ≡ radial_at A s.start
  unfolding radial_at
  header-same = ap radial_of (part_in 64 A C s.start (omega arith))

  longer : Pieces (A ++ C) s
  longer =
      let p = pieces A s l in
      record {
        a = p.a;
        n = p.n;
        b = p.b;
        c = p.c;
        r = p.r;
        o = p.o;
        d = p.d;
        rest = p.rest ++ C;
        file = ap (λ (x : List ℕ). x ++ C) p.file ∙ regroup p.a p.n p.b p.c p.r p.o p.d p.rest;
        to_number = p.to_number;
        number = p.number;
        to-dropped = p.to-dropped;
        to-radials = p.to-radials ∙ sym (ap (λ (t : Task). behind_cut t.cut_number) task-same);
        to-state = ap (λ (t : Task). behind_cut t.cut_number + length p.r) task-same ∙ p.to-state;
        state = p.state;
        to_end = p.to_end;
      }
    where
      regroup : (a n b c r o d x : List ℕ) → (a ++ (n ++ (b ++ (c ++ (r ++ (o ++ (d ++ x))))))) ++ C ≡ a ++ (n ++ (b ++ (c ++ (r ++ (o ++ (d ++ (x ++ C)))))))
      regroup a n b c r o d x = simp append_assoc

  volume-same : mended (A ++ C) s ≡ mended A s
  unfolding longer
  volume-same =
      let p = pieces A s l in
      mended-is (A ++ C) s longer
      ∙ ap (λ (t : Task). p.a ++ (bytes 4 s.cut ++ (p.b ++ (p.r ++ (bytes 4 (closing t.scan_type s.cut s.cut) ++ p.d))))) task-same
      ∙ sym (mended-is A s p)

-- ---- the theorem

pub same-mended : (A C : List ℕ) → Bytes A → stretches (A ++ C) ≡ stretches A → (s : Stretch) → last_kept A ≡ Some s → SameMended A (A ++ C) s
same-mended A C bs e s k =
    let l = lies A bs s k in
    let t = task-same A C s l in
    record {
      found = ap (λ (ss : List Stretch). last_or None (kept_after 0 ss)) e ∙ k;
      volume = volume-same A C s l;
      cut-number = ap (λ (t : Task). field_of cut_number_place cut_number_place t.cut_number s.cut) t;
      state =
          ap₂ (λ (t : Task) (r : Radial). field_of s.start (s.start - (behind_cut t.cut_number - behind_cut s.cut)) r.state (closing t.scan_type s.cut s.cut)) t
          (header-same A C s l);
      from_cut = refl;
      dropped = ap (λ (t : Task). t.cut_number - s.cut) t;
      from = refl;
    }

-- a refused file has no further radial, however long it grows
none-further : (A C : List ℕ) (n p : ℕ) → told A ≡ 2 ∷ n ∷ p ∷ [] → stretches (A ++ C) ≡ stretches A
unfolding Stays
none-further A C n p e = (rests A C (Refused n p) tt (keeps-refused A C (stop A) n p (step-of (ending A) n p e))).radials

pub mend-grows : (A C : List ℕ) → 0 < length C → Bytes (A ++ C) → (told A ≡ 0 ∷ [] → HandedBack A C) → MendGrows A C
mend-grows A C some bs complete =
    let g = grows A C some in
    let k = kept-grows 0 (stretches A) g.later in
    record {
      later = k.0;
      more = ap (kept_after 0) g.radials ∙ k.1;
      same = same-mended A C (split-bytes A C bs).0;
      still = ap (λ (ss : List Stretch). last_or None (kept_after 0 ss));
      refused = none-further A C;
      complete = complete;
    }
