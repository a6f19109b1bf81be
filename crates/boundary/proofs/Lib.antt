mod Adopting
