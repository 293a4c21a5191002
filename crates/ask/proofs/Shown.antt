-- A filled row shows what the gate question answers: specs/Shown, of every file. Assumes nothing.
use Prim.Native.Nat.{ℕ}
use native.Mathlib.Omega.{arith}
use mathlib.Core.List.{List}
use mathlib.Core.Path.{◌≡◌, refl, sym, ◌∙◌}
use borrow.Author.Tests.{lt-ltb, le-ltb}
use lib.IntN.{ℤ}
use lib.ListN.{length, get_or}
use Rattle.std.specs.Prelude.{Result}
use Rattle.refusal.specs.declared.Refusal.{Refusal}
use Rattle.moment.specs.Moment.{moment_at}
use Rattle.gates.specs.Codes.{codes_of}
use Rattle.gates.specs.Gates.{told_of, values_of}
use Rattle.gates.specs.Rows.{told_row}
use Rattle.gates.specs.Telling.{refused, answered}
use Rattle.gates.proofs.Rows.{row_shows}
use Rattle.moments.specs.Moments.{data_at}
use Rattle.reading.specs.Reading.{bytes_of}
use Rattle.ask.specs.declared.places.Where.{Where}
use Rattle.ask.specs.declared.places.Where.TheVariants.{At, NoRadial, NoMoment}
use Rattle.ask.specs.Answers.{coding_of, gate_in, gate_told, RowTold}
use Rattle.ask.specs.Places.{where_is}
use Rattle.ask.specs.Shown.{Shown}

-- a row that was refused did not answer
pub not-filled : (r : Result ℕ Refusal) (m number : ℕ) → told_row r ≡ answered m → told_row r ≡ refused number 0 → ⊥
not-filled r m number a b = let e : answered m ≡ refused number 0 = sym a ∙ b in let z : ◌≡◌ {A = ℕ} 0 1 = cc in omega arith

module _ (f : List ℕ) (n t m : ℕ) (k k' : List ℕ) (h h' : List ℤ) (r : Result ℕ Refusal) (e : told_row r ≡ answered m) where
  pub row-shown : RowTold f (where_is f n t) k h r k' h' → Shown f n t m k' h'
  unfolding RowTold gate_told gate_in told_of
  row-shown x = go (where_is f n t) refl x
    where
      go : (w : Where) → where_is f n t ≡ w → RowTold f w k h r k' h' → Shown f n t m k' h'
      go NoRadial q y = absurd (not-filled r m 30 e y.answer)
      go NoMoment q y = absurd (not-filled r m 31 e y.answer)
      go (At s p) q y =
          let codes = codes_of (moment_at (bytes_of f s) p).bin_length (data_at (bytes_of f s) p) in
          let c = coding_of (moment_at (bytes_of f s) p) in
          let shows = row_shows m y e in
          let all = shows.all in
          record {
            each = λ i l.
                record {
                  gate = values_of (told_of c (get_or codes i 0));
                  answer = rw (q, lt-ltb i (length codes) (omega arith));
                  kind = shows.kind i l;
                  hundredths = shows.hundredths i l;
                };
            last = rw (q, le-ltb m (length codes) (omega arith));
          }
