-- What a worker was told to do, and what it gets back.
use Rattle.lt_crew.specs.declared.room.Order.{Order}
use Rattle.lt_crew.specs.declared.room.Order.TheVariants.{Over, Cross, Memory}
use Rattle.lt_crew.specs.Tasks.{IsTask}

abbrev pub IsOrder : Order → Type 0
IsOrder Over = Unit {0}
IsOrder (Cross task) = IsTask task
IsOrder Memory = Unit {0}
