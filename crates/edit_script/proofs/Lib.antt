pub mod Cuts
pub mod Marks
pub mod WhatIf
pub mod RowParts
