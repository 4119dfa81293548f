mod TwinHeaps
