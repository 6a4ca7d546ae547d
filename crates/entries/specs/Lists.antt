-- A list of entries in lent slots.
use Rattle.std.specs.Prelude.{◌≡◌, ℕ, cond, List, length, take, Some, None, Option, nat_le}
use Rattle.fault.specs.declared.Fault.{Fault}
use Rattle.fault.specs.declared.Fault.TheVariants.{ListFull}
use Rattle.entries.specs.declared.bounded.BoundedList.{BoundedList}

module _ {X : Type 0} where
  -- how many entries there is room for
  abbrev pub capacity : BoundedList X → ℕ
  capacity list = length list.slots.now

  -- the entries so far
  abbrev pub listed : BoundedList X → List X
  listed list = take list.len list.slots.now

  -- a list that is full takes no more
  abbrev pub push_fault : BoundedList X → Option Fault
  push_fault list = cond (nat_le (capacity list) (length (listed list))) (Some ListFull) None

  -- a list keeps the slots that were lent to it
  pub record SameSlots (before after : BoundedList X) : Type 0 where
    pub room : capacity after ≡ capacity before
    pub named : after.slots.ghost_name ≡ before.slots.ghost_name
