-- Every value that is answered of a file is one division by a scale of 1 to 32,768: specs/Divided. Assumes nothing.
use Prim.Native.Nat.{ℕ, ◌+◌, ◌-◌, ◌*◌, ◌<◌}
use native.Mathlib.Nat.{mod-eq_of_lt}
use native.Mathlib.Omega.{arith}
use mathlib.Core.Bool.{Bool, true, false, cond}
use mathlib.Core.List.{List}
use mathlib.Core.Path.{◌≡◌, refl, sym, ap, subst, ◌∙◌}
use borrow.Author.Tests.{ltb-true}
use lib.Dec.{eqb, ltb}
use lib.ListN.{length, get_or}
use Rattle.le.specs.Le.{le, Bytes}
use Rattle.le.proofs.Laws.{le-lt, middle-bytes}
use Rattle.moment.specs.Moment.{moment_at}
use Rattle.gates.specs.Codes.{codes_of}
use Rattle.gates.specs.Gates.{float_of, told_of, Values, values_of}
use Rattle.gates.specs.Telling.{refused, answered}
use Rattle.gates.proofs.Codes.{code_is}
use Rattle.gates.proofs.Gates.{kind-back, value-told}
use Rattle.moments.specs.Moments.{data_at}
use Rattle.reading.specs.Reading.{bytes_of}
use Rattle.ask.specs.declared.places.Where.{Where}
use Rattle.ask.specs.declared.places.Where.TheVariants.{At, NoRadial, NoMoment}
use Rattle.ask.specs.Answers.{coding_of, gate_in, gate_told}
use Rattle.ask.specs.Divided.{Divided}
use Rattle.ask.specs.Places.{where_is}
use Rattle.ask.specs.Sound.{Sound}
use Rattle.ask.proofs.Asked.{answered-one}
use Rattle.ask.proofs.Sounding.{sound}

-- a code of one byte or two
code_lt : (bin : ℕ) (bytes : List ℕ) (i : ℕ) → Bytes bytes → i < length (codes_of bin bytes) → get_or (codes_of bin bytes) i 0 < 65536
code_lt bin bytes i b h = rw (code_is bin bytes i h) (go (eqb bin 1))
  where
    go : (z : Bool) → le (cond z 1 2) bytes (i * cond z 1 2) < 65536
    go true = let l = le-lt 1 bytes (i * 1) b in omega arith
    go false = le-lt 2 bytes (i * 2) b

value-divided : (b : List ℕ) (p i : ℕ) (v : Values) → Bytes b → Sound b p → gate_in (moment_at b p) (data_at b p) i ≡ answered v → v.gate.0 ≡ 5 → Divided v
unfolding gate_in data_at told_of
value-divided b p i v bytes s e k = go (ltb i (length codes)) refl e
  where
    codes : List ℕ
    codes = codes_of (moment_at b p).bin_length (data_at b p)

    code : ℕ
    code = get_or codes i 0

    go : (z : Bool) → ltb i (length codes) ≡ z → cond z (answered (values_of (told_of (coding_of (moment_at b p)) code))) (refused 32 0) ≡ answered v → Divided v
    go true y q =
        let c = coding_of (moment_at b p) in
        let l = ltb-true i (length codes) y in
        let small = s.scale.1 in
        let whole : c.scale ≡ (moment_at b p).scale = mod-eq_of_lt (omega arith) in
        let is : values_of (told_of c code) ≡ v = answered-one q in
        let h = kind-back c code true (ap (λ (x : Values). x.gate.0) is ∙ k) in
        subst Divided (sym (ap values_of (value-told c code h.0 h.1)) ∙ is) (record {
          float = float_of c code;
          gate = refl;
          scale = omega arith;
          quotient = s.float code (code_lt (moment_at b p).bin_length (data_at b p) i (middle-bytes (moment_at b p).length (p + 32) b bytes) l);
        })
    go false y q = absurd (let z : ◌≡◌ {A = ℕ} 0 1 = cc in omega arith)

-- of every file, radial, type and gate
pub divided : (f : List ℕ) → Bytes f → (n t i : ℕ) (v : Values) → gate_told f (where_is f n t) i ≡ answered v → v.gate.0 ≡ 5 → Divided v
unfolding gate_told
divided f bytes n t i v e k = go (where_is f n t) refl e
  where
    go : (w : Where) → where_is f n t ≡ w → gate_told f w i ≡ answered v → Divided v
    go NoRadial q a = absurd (let z : ◌≡◌ {A = ℕ} 0 1 = cc in omega arith)
    go NoMoment q a = absurd (let z : ◌≡◌ {A = ℕ} 0 1 = cc in omega arith)
    go (At s p) q a = value-divided (bytes_of f s) p i v (middle-bytes (s.end - s.start) s.start f bytes) (sound f n t s p q) a k
