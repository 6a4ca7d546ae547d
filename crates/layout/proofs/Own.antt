-- Every block has places of its own.
use borrow.Author.Rules.{rules}
use Rattle.layout.specs.declared.Block.{Block}
use Rattle.layout.specs.declared.Block.TheVariants.{Fich, First, Second, Short, Solid}
use Rattle.layout.specs.Places.{OwnPlaces}

pub own_places : (b : Block) → OwnPlaces b
own_places Fich = record { within = search rules; apart = search rules }
own_places First = record { within = search rules; apart = search rules }
own_places Second = record { within = search rules; apart = search rules }
own_places Short = record { within = search rules; apart = search rules }
own_places Solid = record { within = search rules; apart = search rules }
