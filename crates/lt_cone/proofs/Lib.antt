pub mod AllRows
pub mod RightCones
pub mod NoFault
