mod BaseReports
mod Checkings
mod Endings
mod Askings
