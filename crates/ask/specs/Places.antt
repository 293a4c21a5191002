-- Where an asked radial and moment stand (document 01, "What reading tells").
use Rattle.std.specs.Prelude.{List, ℕ, Option, Some, None, Result, Ok, Err}
use Rattle.refusal.specs.declared.Refusal.{Refusal}
use Rattle.refusal.specs.declared.Refusal.TheVariants as refusal
use Rattle.reading.specs.declared.Stretch.{Stretch}
use Rattle.reading.specs.Reading.{stretches, nth, bytes_of}
use Rattle.moments.specs.Moments.{moments_of, find_in}
use Rattle.ask.specs.declared.places.Where.{Where}
use Rattle.ask.specs.declared.places.Where.TheVariants.{At, NoRadial, NoMoment}

-- the moment of a type, as the search in a radial's own stretch of the file found it
unfoldable pub in_stretch : Stretch → Option ℕ → Where
in_stretch s (Some p) = At s p
in_stretch s None = NoMoment

abbrev pub moment_in : List ℕ → ℕ → Stretch → Where
moment_in f t s = in_stretch s (find_in (bytes_of f s) t (moments_of (bytes_of f s)))

unfoldable pub in_found : List ℕ → Option Stretch → ℕ → Where
in_found f None t = NoRadial
in_found f (Some s) t = moment_in f t s

-- the moment of type t in the whole radial with a sequence number
abbrev pub where_is : List ℕ → ℕ → ℕ → Where
where_is f n t = in_found f (nth (stretches f) n) t

-- the same, as an answer that a question goes on from
unfoldable pub found_of : Where → Result (Stretch × ℕ) Refusal
found_of (At s p) = Ok (s, p)
found_of NoRadial = Err refusal.NoRadial
found_of NoMoment = Err refusal.NoMoment
