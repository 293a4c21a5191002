-- What is answered of a kept radial in a mended volume (document 02, #107): what is answered of it in the given file, but for its place
-- and a changed state.
use Rattle.std.specs.Prelude.{ℕ, ◌+◌, List, ◌≡◌, ℤ, Result}
use Rattle.refusal.specs.declared.Refusal.{Refusal}
use Rattle.radial.specs.declared.Radial.{Radial}
use Rattle.ask.specs.Answers.{radial_of_file, moment_told, data_told}
use Rattle.ask.specs.Growth.{gate_asked, RowAsked}
use Rattle.ask.specs.Places.{where_is}

-- a radial's record with another state (table 3-1)
abbrev pub with_state : Radial → ℕ → Radial
with_state r x =
    record {
      state = x;
      spot_blank = r.spot_blank;
      sequence = r.sequence;
      radial_number = r.radial_number;
      elevation_number = r.elevation_number;
      azimuth = r.azimuth;
      elevation = r.elevation;
      seconds = r.seconds;
      microseconds = r.microseconds;
      length_of_data = r.length_of_data;
      moment_number = r.moment_number;
      reserved = r.reserved;
    }

-- radial n of g is radial n of f, moved by `gap` bytes to the front, with state x
pub record Alike (f g : List ℕ) (n gap x : ℕ) : Type 0 where
  pub there : ((radial_of_file f n).number ≡ 0) × ((radial_of_file g n).number ≡ 0)
  pub place : (radial_of_file g n).place + gap ≡ (radial_of_file f n).place
  pub header : (radial_of_file g n).header ≡ with_state (radial_of_file f n).header x
  pub moment : (t : ℕ) → moment_told g (where_is g n t) ≡ moment_told f (where_is f n t)
  pub bytes : (t : ℕ) → data_told g (where_is g n t) ≡ data_told f (where_is f n t)
  pub gate : (t i : ℕ) → gate_asked g n t i ≡ gate_asked f n t i
  pub row : (t : ℕ) (k k' : List ℕ) (h h' : List ℤ) (r : Result ℕ Refusal)
      → (RowAsked g n t k h r k' h' → RowAsked f n t k h r k' h') × (RowAsked f n t k h r k' h' → RowAsked g n t k h r k' h')
