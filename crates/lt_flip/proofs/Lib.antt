mod Independent
pub mod Near
mod MadeClasses
mod Merged
mod Collected
pub mod Wide
mod SortedPoints
mod CellsBelow
mod Dependencies
pub mod OneAcross
