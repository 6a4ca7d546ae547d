-- Mutes: a measure under which the readings of some stretches of places leave the total as it is.
use Rattle.std.specs.Prelude.{◌≡◌, ℕ, ◌+◌, Bool, false, cond, ◌&&◌, ◌||◌, List, [], ◌∷◌, ◌++◌, take, replicate, Some, None, Option, nat_le, nat_lt, slice_set}
use Rattle.fault.specs.declared.Fault.{Fault}
use Rattle.fault.specs.declared.Fault.TheVariants.{StretchNotAllowed}
use Rattle.measure.specs.Meaning.{Meaning}
use Rattle.mute.specs.declared.Mute.{Mute}
use Rattle.mute.specs.declared.Stretch.{Stretch}

-- the stretch of so many places from a first one
abbrev pub stretch : ℕ → ℕ → Stretch
stretch first length = record { first = first; past = first + length }

abbrev pub inside : Stretch → ℕ → Bool
inside s place = nat_le s.first place && nat_lt place s.past

abbrev pub covered : List Stretch → ℕ → Bool
covered [] place = false
covered (s ∷ ss) place = inside s place || covered ss place

abbrev pub stretches : {M : Type 0} → Mute M → List Stretch
stretches m = take m.used m.slots

-- the places that a mute itself mutes, whatever is below it
abbrev pub hidden : {M : Type 0} → Mute M → ℕ → Bool
hidden m place = covered (stretches m) place

abbrev pub mute_means : {M R T : Type 0} → Meaning M R T → Meaning (Mute M) R T
mute_means μ = record {
  start = λ m. μ.start m.below;
  extend = λ m total place reading d. cond (hidden m place) total (μ.extend m.below total place reading d);
  better = λ m a b. μ.better m.below a b;
  plain = λ m reading. μ.plain m.below reading;
  proper = λ m reading. μ.proper m.below reading;
}

-- a mute with no stretch
abbrev pub unmuted : {M : Type 0} → M → Mute M
unmuted below = record { below = below; slots = replicate 8 (stretch 0 0); used = 0 }

-- a mute with one more stretch
abbrev pub added : {M : Type 0} → Mute M → ℕ → ℕ → Mute M
added m first length = record { below = m.below; slots = slice_set m.slots m.used (stretch first length); used = m.used + 1 }

-- a ninth stretch is refused, and an empty one, and one that ends past the 480 places of a frame
abbrev pub add_fault : {M : Type 0} → Mute M → ℕ → ℕ → Option Fault
add_fault m first length =
    cond (nat_le 8 m.used) (Some StretchNotAllowed)
    (cond (nat_le length 0) (Some StretchNotAllowed)
    (cond (nat_lt 480 (first + length)) (Some StretchNotAllowed) None))

-- one more stretch: it comes last in the list, and its places are muted besides those muted before
pub record Grown {M : Type 0} (before after : Mute M) (first length : ℕ) : Type 0 where
  pub listed : stretches after ≡ stretches before ++ stretch first length ∷ []
  pub muted : (place : ℕ) → hidden after place ≡ hidden before place || inside (stretch first length) place
