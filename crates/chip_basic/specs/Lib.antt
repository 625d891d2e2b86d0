pub mod Hdl
pub mod Tables
pub mod Trees
pub mod Laws
pub mod Inner
