mod Below
mod InTheWay
mod Overwrites
mod Placed
mod SetPaths
mod Takes
mod Told
