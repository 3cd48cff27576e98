-- Equations whose sides have one sort.
mod Equations
