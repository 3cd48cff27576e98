-- Numbers that increase.
mod Increasing
